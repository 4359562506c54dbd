-- A safe loss that contains a site of each conflict with a table is accepted with it.
use Rattle.std.proofs.Common.{◌≡◌, ℕ, ◌+◌, ◌<◌, ◌≤◌, List, [], map, refl, sym, ap, subst, ◌∙◌, Bool, true, false, ◌&&◌, ◌⊎◌, inl, inr, Option, Some, None, length, get_or, arith, ◌==◌, eqb-true, eq-eqb}
use Rattle.std.specs.Prelude.{nat_lt}
use Rattle.std.specs.List.{slice_get}
use Rattle.std.specs.Option.{option_map_or}
use Rattle.std.proofs.lemmas.Option.{slice_get-get_or}
use Rattle.std.proofs.lemmas.List.Quantifiers.{position-Some}
use Rattle.std.proofs.Math.ListN.{length-map}
use borrow.Author.Tests.{lt-ltb}
use lib.Pointwise.{pointwise}
use Rattle.cs_schema.specs.declared.file_name.FileName.{FileName}
use Rattle.cs_schema.specs.Lists.{member, IsIn}
use Rattle.cs_schema.specs.CatalogData.{CatalogData, HasSegment, segments, has_join}
use Rattle.cs_schema.specs.CatalogRules.{IsCatalog}
use Rattle.cs_schema.specs.FileNames.{FileContents, Survives}
use Rattle.cs_schema.specs.Losses.{Sites, IsLoss, lost}
use Rattle.cs_schema.specs.Order.{rows_of, Fits}
use Rattle.cs_schema.specs.Rows.{Row, IsTable, segment_of_row, project}
use Rattle.cs_schema.specs.Values.{value_eq}
use Rattle.cs_delta.specs.Image.{ImageData, Pair, image_keys, image_rows, position_of_key}
use Rattle.cs_jix.specs.JoinIndex.{Place, no_place}
use Rattle.cs_rows.specs.Walk.{Contents}
use Rattle.cs_safety.specs.Safety.{IsSafe}
use Rattle.cs_recovery.specs.AcceptedLosses.{IsAcceptedLoss}
use Rattle.cs_recovery.specs.Conflicts.{site_of, IsImageOfTable, IsEntryOf, IsKeyOf, Contradicts, IsConflict, HitsConflicts, AreRead}
use Rattle.cs_recovery.specs.Contents.{IsImageOf, IsJoinOf, Reads}
use Rattle.cs_recovery.specs.Expected.{is_segment}
use Rattle.cs_recovery.specs.Holding.{AreContentsOf, HoldsSurvivors, agrees}
use Rattle.cs_recovery.specs.Places.{image_after, place_of, entry_for, entries_for}
use Rattle.cs_recovery.specs.Verdicts.{IsSound}
use Rattle.cs_schema.proofs.Ascending.{false≢true}
use Rattle.cs_schema.proofs.Lists.{in_at}
use Rattle.cs_schema.proofs.RowOrder.{rows_of-are}
use Rattle.cs_safety.proofs.AliveLemmas.{segment_below}
use Rattle.cs_recovery.proofs.Agreeing.{both_true, first_true, second_true, agrees_if, lost_place, kept_place, agrees_at_each}
use Rattle.cs_recovery.proofs.Covers.{entry_from}
use Rattle.cs_recovery.proofs.Exact.{Layers, rows_decide}
use Rattle.cs_recovery.proofs.OneAnswer.{segment_there}
use Rattle.cs_recovery.proofs.Restarts.{some, all_agree}
use Rattle.cs_recovery.proofs.RowPlaces.{kept_after, place_kept, kept_row, place}
use Rattle.cs_recovery.proofs.Walks.{IsKeyed}

abbrev no_image : ImageData
no_image = record { pairs = []; top = 0 }

test_segment : (C : CatalogData) (p s : ℕ) → HasSegment C p s → is_segment C p s ≡ true
test_segment C p s h = both_true (nat_lt p (length C.projections)) (nat_lt s (segments C p)) (lt-ltb p (length C.projections) h.0) (lt-ltb s (segments C p) h.1)

module _ (C : CatalogData) (cat : IsCatalog C) (layers : Layers C) (F : FileContents) (L : Sites) (T : List Row) (table : IsTable C T) (read : AreRead C F) (hits : HitsConflicts C F T L) where
  -- no surviving file contradicts the table by itself
  fine : {A : Type 0} (n : FileName) → Survives C L n → Contradicts C F T n → A
  fine n v k = go (hits (site_of C n) (site_of C n) (IsConflict.alone n v.0 k refl refl))
    where
      go : {A : Type 0} → (member L (site_of C n) ≡ true) ⊎ (member L (site_of C n) ≡ true) → A
      go (inl e) = false≢true (sym v.1 ∙ e)
      go (inr e) = false≢true (sym v.1 ∙ e)

  -- ---- what was read

  chosen_image : (p s : ℕ) → (m : ImageData) × (Survives C L (FileName.Seg p s) → IsImageOf C F p s m)
  chosen_image p s = go (is_segment C p s) refl
    where
      from : IsSound C F (FileName.Del p s) ⊎ ¬ IsSound C F (FileName.Del p s) → (m : ImageData) × (Survives C L (FileName.Seg p s) → IsImageOf C F p s m)
      from (inl x) = (x.0, λ v. x.1)
      from (inr bad) = (no_image, λ v. fine (FileName.Del p s) v (Contradicts.bad_file bad))

      go : (b : Bool) → is_segment C p s ≡ b → (m : ImageData) × (Survives C L (FileName.Seg p s) → IsImageOf C F p s m)
      go true e = from (read (FileName.Del p s) (segment_there C p s e))
      go false e = (no_image, λ v. false≢true (sym e ∙ test_segment C p s v.0))

  chosen_join : (p s q : ℕ) → (es : List Place) × (Survives C L (FileName.Jix p s q) → IsJoinOf F p s q es)
  chosen_join p s q = go (is_segment C p s && has_join C p q) refl
    where
      from : IsSound C F (FileName.Jix p s q) ⊎ ¬ IsSound C F (FileName.Jix p s q) → (es : List Place) × (Survives C L (FileName.Jix p s q) → IsJoinOf F p s q es)
      from (inl x) = (x.0, λ v. x.1)
      from (inr bad) = ([], λ v. fine (FileName.Jix p s q) v (Contradicts.bad_file bad))

      go : (b : Bool) → (is_segment C p s && has_join C p q) ≡ b → (es : List Place) × (Survives C L (FileName.Jix p s q) → IsJoinOf F p s q es)
      go true e = from (read (FileName.Jix p s q) (segment_there C p s (first_true (is_segment C p s) (has_join C p q) e), second_true (is_segment C p s) (has_join C p q) e))
      go false e = ([], λ v. false≢true (sym e ∙ both_true (is_segment C p s) (has_join C p q) (test_segment C p s v.0.0) v.0.1))

  abbrev S : Contents
  S = record { image = λ p s. (chosen_image p s).0; join = λ p s q. (chosen_join p s q).0 }

  reads : Reads C F L S
  reads = record { images = λ p s v. (chosen_image p s).1 v; joins = λ p s q v. (chosen_join p s q).1 v }

  keyed : (p s : ℕ) → Survives C L (FileName.Seg p s) → IsKeyed (S.image p s)
  keyed p s v = layers.keyed F p s (S.image p s) (reads.images p s v)

  -- ---- rows

  same_rows : (p s : ℕ) → Survives C L (FileName.Seg p s) → image_rows (S.image p s) ≡ map (project C p) (rows_of C T p s)
  same_rows p s v = go (pointwise (pointwise value_eq) (image_rows (S.image p s)) (map (project C p) (rows_of C T p s))) refl
    where
      go : (b : Bool) → pointwise (pointwise value_eq) (image_rows (S.image p s)) (map (project C p) (rows_of C T p s)) ≡ b → image_rows (S.image p s) ≡ map (project C p) (rows_of C T p s)
      go true e = (rows_decide (image_rows (S.image p s)) (map (project C p) (rows_of C T p s))).0 e
      go false e = fine (FileName.Seg p s) v (Contradicts.other_rows p s (S.image p s) refl (reads.images p s v) (λ x. false≢true (sym e ∙ (rows_decide (image_rows (S.image p s)) (map (project C p) (rows_of C T p s))).1 x)))

  is_image : (p s : ℕ) → Survives C L (FileName.Seg p s) → IsImageOfTable C F T p s (S.image p s)
  is_image p s v = record { reads = reads.images p s v; rows = same_rows p s v }

  -- the images, with join indexes that lead to their rows
  abbrev led : Contents
  led = record { image = S.image; join = λ p s q. entries_for C L S T p s q }

  led_same : AreContentsOf C L led T
  led_same = record { images = same_rows; joins = λ p s q v. all_agree C L q (entries_for C L S T p s q) }

  -- ---- entries

  module _ (p s q : ℕ) (v : Survives C L (FileName.Jix p s q)) where
    hq : q < length C.projections
    hq = ((cat.projections p v.0.0.0).joins q v.0.1).0

    here : Survives C L (FileName.Seg p s)
    here = (v.0.0, v.1)

    -- the entry of a row
    module _ (before index : ℕ) (e : Place) (r : Row) (at : slice_get (S.join p s q) before ≡ Some e) (live : position_of_key (S.image p s) (before + 1) ≡ Some index) (row : slice_get (rows_of C T p s) index ≡ Some r) where
      abbrev t : ℕ
      t = segment_of_row C q r

      there : IsIn r T
      there = (((rows_of-are C T table p s).members r).0 (in_at (rows_of C T p s) index r row)).0

      entry : IsEntryOf C F T p s q r e
      entry = record { image = S.image p s; entries = S.join p s q; index = index; before = before; is_image = is_image p s here; is_join = reads.joins p s q v; row = row; live = live; entry = at }

      same_segment : (b : Bool) → (e.0 == t) ≡ b → e.0 ≡ t
      same_segment true x = eqb-true e.0 t x
      same_segment false x = fine (FileName.Jix p s q) v (Contradicts.wrong_place p s q r e refl entry (inl (λ y. false≢true (sym x ∙ eq-eqb e.0 t y))))

      some_key : (b : Bool) → (e.1 == 0) ≡ b → 1 ≤ e.1
      some_key true x = fine (FileName.Jix p s q) v (Contradicts.wrong_place p s q r e refl entry (inr (eqb-true e.1 0 x)))
      some_key false x = some e.1 x

      same_key : lost C L q t ≡ false → (key : ℕ) → IsKeyOf C F T q r key → (b : Bool) → (e.1 == key) ≡ b → e.1 ≡ key
      same_key l key k true x = eqb-true e.1 key x
      same_key l key k false x = go (hits (site_of C (FileName.Jix p s q)) (site_of C (FileName.Seg q t)) (IsConflict.pair p s q r e key v.0 entry k (λ y. false≢true (sym x ∙ eq-eqb e.1 key y)) refl refl))
        where
          go : (member L (site_of C (FileName.Jix p s q)) ≡ true) ⊎ (member L (site_of C (FileName.Seg q t)) ≡ true) → e.1 ≡ key
          go (inl m) = false≢true (sym v.1 ∙ m)
          go (inr m) = false≢true (sym l ∙ m)

      by_loss : (b : Bool) → lost C L q t ≡ b → agrees C L q e (place_of C L S T q r) ≡ true
      by_loss true l =
          let w = place C led T cat L table led_same keyed q r hq there in
          ap (λ b. agrees_if b e (place_of C L S T q r)) l ∙ ap (agrees_if true e) w.is ∙ lost_place e t w.key w.some (same_segment (e.0 == t) refl) (some_key (e.1 == 0) refl)
      by_loss false l =
          let w = kept_row C led T cat L table led_same keyed q r hq there l in
          let k : IsKeyOf C F T q r w.key = record { image = S.image q t; index = w.index; is_image = is_image q t ((hq, segment_below C q r), l); row = w.of_row; live = w.at } in
          ap (λ b. agrees_if b e (place_of C L S T q r)) l ∙ ap (agrees_if false e) (place_kept C led T L q r w l) ∙ kept_place e t w.key (same_segment (e.0 == t) refl) (same_key l w.key k (e.1 == w.key) refl)

      row_agrees : agrees C L q e (place_of C L S T q r) ≡ true
      row_agrees = by_loss (lost C L q t) refl

    -- an entry at a dead key is no place
    dead_agrees : (before : ℕ) (e : Place) → slice_get (S.join p s q) before ≡ Some e → position_of_key (S.image p s) (before + 1) ≡ None → agrees C L q e no_place ≡ true
    dead_agrees before e at dead = go ((e.0 == 0) && (e.1 == 0)) refl
      where
        none : (b : Bool) → ((e.0 == 0) && (e.1 == 0)) ≡ true → agrees_if b e no_place ≡ true
        none true x = x
        none false x = x

        go : (b : Bool) → ((e.0 == 0) && (e.1 == 0)) ≡ b → agrees C L q e no_place ≡ true
        go true x = none (lost C L q 0) x
        go false x = fine (FileName.Jix p s q) v (Contradicts.dead_key p s q (S.image p s) (S.join p s q) before e refl (reads.images p s here) (reads.joins p s q v) at dead (λ y. false≢true (sym x ∙ both_true (e.0 == 0) (e.1 == 0) (eq-eqb e.0 0 (ap (λ (w : Place). w.0) y)) (eq-eqb e.1 0 (ap (λ (w : Place). w.1) y)))))

    -- a live key has a row of the table
    row_at : (key index : ℕ) → position_of_key (S.image p s) key ≡ Some index → (r : Row) × (slice_get (rows_of C T p s) index ≡ Some r)
    row_at key index live =
        let m : ImageData = S.image p s in
        let keys : length (image_keys m) ≡ length m.pairs = length-map m.pairs (λ (x : Pair). x.0) in
        let rows : length (image_rows m) ≡ length m.pairs = length-map m.pairs (λ (x : Pair). x.1) in
        let count : length (map (project C p) (rows_of C T p s)) ≡ length (rows_of C T p s) = length-map (rows_of C T p s) (project C p) in
        let same : length (image_rows m) ≡ length (map (project C p) (rows_of C T p s)) = ap (λ xs. length xs) (same_rows p s here) in
        let below = (position-Some (λ k. k == key) (image_keys m) index 0 live).0 in
        (get_or (rows_of C T p s) index [], slice_get-get_or (rows_of C T p s) index [] (omega (arith, keys, rows, count, same, below)))

    at_position : (before : ℕ) (e : Place) → slice_get (S.join p s q) before ≡ Some e → (o : Option ℕ) → position_of_key (S.image p s) (before + 1) ≡ o → agrees C L q e (entry_from C T p s (place_of C L S T q) o) ≡ true
    at_position before e at None live = dead_agrees before e at live
    at_position before e at (Some index) live =
        let r = row_at (before + 1) index live in
        subst (λ o. agrees C L q e (option_map_or (place_of C L S T q) o no_place) ≡ true) (sym r.1) (row_agrees before index e r.0 at live r.1)

    count_is : (b : Bool) → (length (S.join p s q) == (S.image p s).top) ≡ b → length (S.join p s q) ≡ (S.image p s).top
    count_is true x = eqb-true (length (S.join p s q)) (S.image p s).top x
    count_is false x = fine (FileName.Jix p s q) v (Contradicts.other_count p s q (S.image p s) (S.join p s q) refl (reads.images p s here) (reads.joins p s q v) (λ y. false≢true (sym x ∙ eq-eqb (length (S.join p s q)) (S.image p s).top y)))

    -- each entry agrees with the one for its key
    each_agrees : (i j : ℕ) (e : Place) → slice_get (S.join p s q) i ≡ Some e → j ≡ i → agrees C L q e (entry_for C L S T p s q (j + 1)) ≡ true
    each_agrees i j e at same =
        let is : entry_for C L S T p s q (i + 1) ≡ entry_from C T p s (place_of C L S T q) (position_of_key (S.image p s) (i + 1)) =
        ap (λ w. entry_from C T p s (place_of C L S T q) (position_of_key w (i + 1))) (kept_after C S T L p s v.1) in
        ap (λ n. agrees C L q e (entry_for C L S T p s q (n + 1))) same ∙ ap (agrees C L q e) is ∙ at_position i e at (position_of_key (S.image p s) (i + 1)) refl

    same_entries : pointwise (agrees C L q) (S.join p s q) (entries_for C L S T p s q) ≡ true
    same_entries =
        agrees_at_each (agrees C L q) (λ i. entry_for C L S T p s q (i + 1)) (S.join p s q) 0 (image_after C L S T p s).top
        (count_is (length (S.join p s q) == (S.image p s).top) refl ∙ ap (λ (w : ImageData). w.top) (sym (kept_after C S T L p s v.1)))
        (λ i j e at same. each_agrees i j e at (omega (arith, same)))

  holds : Fits C T → HoldsSurvivors C F L T
  holds fits = record { table = table; fits = fits; contents = S; reads = reads; same = record { images = same_rows; joins = same_entries } }

pub hits_accepted : (C : CatalogData) → IsCatalog C → Layers C → (F : FileContents) (L : Sites) (T : List Row) → IsTable C T → Fits C T → IsLoss C L → IsSafe C L → AreRead C F → HitsConflicts C F T L → IsAcceptedLoss C F L T
hits_accepted C cat layers F L T table fits loss safe read hits = record { loss = loss; safe = safe; holds = holds C cat layers F L T table read hits fits }
