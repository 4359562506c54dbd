-- The surviving files together with the written ones hold the table again.
use Rattle.std.proofs.Common.{◌≡◌, ℕ, ◌+◌, ◌<◌, ◌≤◌, List, [], ◌∷◌, map, refl, sym, ap, subst, ◌∙◌, Bool, true, false, not, cond, ◌&&◌, ◌||◌, ◌⊎◌, inl, inr, Option, Some, None, length, arith, ◌==◌, eq-eqb}
use Rattle.std.specs.Prelude.{nat_lt, nat_le, slice_index}
use Rattle.std.specs.List.{slice_get, enumerate_from}
use Rattle.std.specs.Option.{option_map_or, option_and_then, option_or}
use Rattle.std.proofs.lemmas.Option.{get_or_from_slice_get}
use Rattle.std.proofs.lemmas.List.FromFn.{length-map-range_with_len, length-enumerate_from}
use borrow.Author.Tests.{lt-ltb}
use lib.Pointwise.{pointwise}
use Rattle.cs_schema.specs.declared.cells.Value.{Value}
use Rattle.cs_schema.specs.declared.file_name.FileName.{FileName}
use Rattle.cs_schema.specs.CatalogData.{CatalogData, HasSegment, segments, has_join}
use Rattle.cs_schema.specs.CatalogRules.{IsCatalog}
use Rattle.cs_schema.specs.Rows.{Row, IsTable, segment_of_row, project}
use Rattle.cs_schema.specs.Lists.{IsIn}
use Rattle.cs_schema.specs.FileNames.{Survives, FileContents}
use Rattle.cs_schema.specs.Losses.{Sites, alive, lost}
use Rattle.cs_schema.specs.Order.{rows_of, Fits, row_limit}
use Rattle.cs_schema.specs.Lists.{numbers_below}
use Rattle.cs_segment.specs.SegmentFile.{base_of, segment_text}
use Rattle.cs_delta.specs.Image.{Pair, ImageData, image_rows, image_keys, position_of_key, fresh_image}
use Rattle.cs_delta.specs.DeltaFile.{merged, no_changes, delta_text, key_limit}
use Rattle.cs_jix.specs.JoinIndex.{Place, no_place, IsEntry, IsJoinIndexFile, join_index_text}
use Rattle.cs_rows.specs.Walk.{Contents}
use Rattle.cs_recovery.specs.Contents.{IsImageOf, IsJoinOf, Reads}
use Rattle.cs_recovery.specs.Holding.{AreContentsOf, HoldsSurvivors, Holds, agrees}
use Rattle.cs_recovery.specs.Places.{image_after, place_of, entry_for, entries_for}
use Rattle.cs_recovery.specs.Expected.{AreExpected, written, is_segment, is_lost, is_affected}
use Rattle.cs_recovery.specs.Tables.{when}
use Rattle.cs_recovery.specs.Claims.{put_over}
use Rattle.cs_schema.proofs.Ascending.{false≢true}
use Rattle.cs_schema.proofs.RowOrder.{rows_of-are}
use Rattle.cs_schema.proofs.Lists.{in_at, in_map, slice_get_map, before_map}
use Rattle.cs_recovery.proofs.Walks.{IsKeyed, has_index}
use Rattle.cs_safety.proofs.AliveLemmas.{segment_below, alive_kept}
use Rattle.cs_recovery.proofs.Exact.{Layers}
use Rattle.cs_recovery.proofs.Accepted.{same_contents}
use Rattle.cs_recovery.proofs.Agreeing.{agree_map}
use Rattle.cs_recovery.proofs.FewerSurvive.{image_under, join_under}
use Rattle.cs_recovery.proofs.Keyed.{merged_keyed}
use Rattle.cs_recovery.proofs.Afresh.{base_is, count_is, fresh_merged, no_changes_are}

module _ (C : CatalogData) (cat : IsCatalog C) (layers : Layers C) (F : FileContents) (L : Sites) (S : Contents) (reads : Reads C F L S) (T : List Row) (t : IsTable C T) (fits : Fits C T) (same : AreContentsOf C L S T) where
  keyed : (p s : ℕ) → Survives C L (FileName.Seg p s) → IsKeyed (S.image p s)
  keyed p s v = layers.keyed F p s (S.image p s) (reads.images p s v)

  abbrev fresh : ℕ → ℕ → ImageData
  fresh p s = fresh_image (map (project C p) (rows_of C T p s))

  pub is_fresh : (p s : ℕ) → lost C L p s ≡ true → image_after C L S T p s ≡ fresh p s
  is_fresh p s e = ap (λ b. cond b (fresh p s) (S.image p s)) e

  pub is_kept : (p s : ℕ) → lost C L p s ≡ false → image_after C L S T p s ≡ S.image p s
  is_kept p s e = ap (λ b. cond b (fresh p s) (S.image p s)) e

  -- the facts about an image after the recovery
  pub record IsAfter (p s : ℕ) (m : ImageData) : Type 0 where
    pub keys : IsKeyed m
    pub rows : image_rows m ≡ map (project C p) (rows_of C T p s)
    pub top : m.top ≤ key_limit

  fresh_rows : (n : ℕ) (xs : List (List Value)) → map (λ (x : Pair). x.1) (enumerate_from n xs) ≡ xs
  fresh_rows n [] = refl
  fresh_rows n (x ∷ xs) = ap (λ l. x ∷ l) (fresh_rows (n + 1) xs)

  pub after : (p s : ℕ) → HasSegment C p s → IsAfter p s (image_after C L S T p s)
  after p s h = go (lost C L p s) refl
    where
      go : (b : Bool) → lost C L p s ≡ b → IsAfter p s (image_after C L S T p s)
      go false e =
          let i = reads.images p s (h, e) in
          subst (IsAfter p s) (sym (is_kept p s e)) (record { keys = keyed p s (h, e); rows = same.images p s (h, e); top = subst (λ (m : ImageData). m.top ≤ key_limit) (sym i.image) i.delta_file.delta.top_limit })
      go true e =
          let xs : List (List Value) = map (project C p) (rows_of C T p s) in
          let n : length xs ≡ length (rows_of C T p s) = count_is C cat T t fits p s h in
          let l = fits p s h in
          subst (IsAfter p s) (sym (is_fresh p s e)) (record {
            keys = subst IsKeyed (sym (fresh_merged C cat T t fits p s h)) (merged_keyed C p (base_of C p xs) (no_changes p s (length (rows_of C T p s))) (no_changes_are C cat T t fits p s h) n);
            rows = fresh_rows 1 xs;
            top = omega (arith, l, n);
          })

  -- the place of a row is one that a join index can have, in a segment of the target
  pub record IsGoodPlace (q : ℕ) (e : Place) : Type 0 where
    pub segment : e.0 < segments C q
    pub entry : IsEntry e

  pub place_good : (q : ℕ) (r : Row) → q < length C.projections → IsIn r T → IsGoodPlace q (place_of C L S T q r)
  place_good q r hq i =
      let u : ℕ = segment_of_row C q r in
      let hu : u < segments C q = segment_below C q r in
      let a = after q u (hq, hu) in
      let j = has_index C cat L S T t same keyed q r i in
      let m : ImageData = image_after C L S T q u in
      let g : slice_get (image_rows m) j.index ≡ Some (project C q r) = ap (λ xs. slice_get xs j.index) a.rows ∙ slice_get_map (project C q) (rows_of C T q u) j.index r j.at in
      let b = before_map (λ (x : Pair). x.1) m.pairs j.index (project C q r) g in
      let k : slice_get (image_keys m) j.index ≡ Some b.0.0 = slice_get_map (λ (x : Pair). x.0) m.pairs j.index b.0 b.1 in
      let range = a.keys.range j.index b.0.0 k in
      let top = a.top in
      let few = (cat.projections q hq).few_cuts in
      let is : place_of C L S T q r ≡ (u, b.0.0) = ap (λ v. (u, v)) (ap (λ o. option_map_or (λ x. slice_index (image_keys m) x) o 0) j.is ∙ get_or_from_slice_get (image_keys m) j.index b.0.0 0 k) in
      subst (IsGoodPlace q) (sym is) (record { segment = hu; entry = inr (omega arith, range.0, omega (arith, range.1, top)) })

  abbrev entry_from : ℕ → ℕ → (Row → Place) → Option ℕ → Place
  entry_from p s f o = option_map_or f (option_and_then (slice_get (rows_of C T p s)) o) no_place

  -- the entry for a key is no place, or such a place
  pub entry_good : (p s q k : ℕ) → q < length C.projections → (entry_for C L S T p s q k ≡ no_place) ⊎ IsGoodPlace q (entry_for C L S T p s q k)
  entry_good p s q k hq = at_position (position_of_key (image_after C L S T p s) k)
    where
      at_row : (i : ℕ) (x : Option Row) → slice_get (rows_of C T p s) i ≡ x → (option_map_or (λ r. place_of C L S T q r) x no_place ≡ no_place) ⊎ IsGoodPlace q (option_map_or (λ r. place_of C L S T q r) x no_place)
      at_row i None e = inl refl
      at_row i (Some r) e = inr (place_good q r hq (((rows_of-are C T t p s).members r).0 (in_at (rows_of C T p s) i r e)).0)

      at_position : (o : Option ℕ) → (entry_from p s (λ r. place_of C L S T q r) o ≡ no_place) ⊎ IsGoodPlace q (entry_from p s (λ r. place_of C L S T q r) o)
      at_position None = inl refl
      at_position (Some i) = at_row i (slice_get (rows_of C T p s) i) refl

  pub entries_file : (p s q : ℕ) → HasSegment C p s → q < length C.projections → IsJoinIndexFile p s q (join_index_text p s q (entries_for C L S T p s q)) (entries_for C L S T p s q)
  entries_file p s q h hq = record {
    count = subst (λ n. n ≤ key_limit) (sym (length-map-range_with_len (λ i. entry_for C L S T p s q (i + 1)) 0 (image_after C L S T p s).top)) (after p s h).top;
    each = λ e i. let x = in_map (λ i. entry_for C L S T p s q (i + 1)) (numbers_below (image_after C L S T p s).top) e i in subst IsEntry (sym x.2) (one (entry_good p s q (x.0 + 1) hq));
    text = refl;
  }
    where
      one : {e : Place} → (e ≡ no_place) ⊎ IsGoodPlace q e → IsEntry e
      one (inl a) = inl a
      one (inr b) = b.entry

  -- what the recovery leaves
  abbrev left : Contents
  left = record { image = image_after C L S T; join = λ p s q. cond (is_affected C L p s q) (entries_for C L S T p s q) (S.join p s q) }

  exists_test : (p s : ℕ) → HasSegment C p s → is_segment C p s ≡ true
  exists_test p s h = ap (λ b. b && nat_lt s (segments C p)) (lt-ltb p (length C.projections) h.0) ∙ lt-ltb s (segments C p) h.1

  module _ (out : FileContents) (files : (n : FileName) → out n ≡ written C L S T n) where
    abbrev G : FileContents
    G = put_over out F

    pub left_image : (p s : ℕ) → HasSegment C p s → IsImageOf C G p s (image_after C L S T p s)
    left_image p s h = go (lost C L p s) refl
      where
        go : (b : Bool) → lost C L p s ≡ b → IsImageOf C G p s (image_after C L S T p s)
        go false e =
            let no : is_lost C L p s ≡ false = ap (λ b. b && lost C L p s) (exists_test p s h) ∙ e in
            let seg : out (FileName.Seg p s) ≡ None = files (FileName.Seg p s) ∙ ap (λ b. when b (segment_text C p s (base_of C p (map (project C p) (rows_of C T p s))))) no in
            let del : out (FileName.Del p s) ≡ None = files (FileName.Del p s) ∙ ap (λ b. when b (delta_text (no_changes p s (length (rows_of C T p s))))) no in
            subst (IsImageOf C G p s) (sym (is_kept p s e)) (image_under C F G p s (S.image p s) (ap (λ o. option_or o (F (FileName.Seg p s))) seg) (ap (λ o. option_or o (F (FileName.Del p s))) del) (reads.images p s (h, e)))
        go true e =
            let xs : List (List Value) = map (project C p) (rows_of C T p s) in
            let n : ℕ = length (rows_of C T p s) in
            let yes : is_lost C L p s ≡ true = ap (λ b. b && lost C L p s) (exists_test p s h) ∙ e in
            let seg : out (FileName.Seg p s) ≡ Some (segment_text C p s (base_of C p xs)) = files (FileName.Seg p s) ∙ ap (λ b. when b (segment_text C p s (base_of C p xs))) yes in
            let del : out (FileName.Del p s) ≡ Some (delta_text (no_changes p s n)) = files (FileName.Del p s) ∙ ap (λ b. when b (delta_text (no_changes p s n))) yes in
            let is = fresh_merged C cat T t fits p s h in
            let l = fits p s h in
            let c : length xs ≡ n = count_is C cat T t fits p s h in
            let many : length (merged (base_of C p xs) (no_changes p s n)).pairs ≤ row_limit = subst (λ (m : ImageData). length m.pairs ≤ row_limit) is (subst (λ k. k ≤ row_limit) (sym (length-enumerate_from 1 xs)) (omega (arith, l, c))) in
            record {
              segment_bytes = segment_text C p s (base_of C p xs);
              delta_bytes = delta_text (no_changes p s n);
              base = base_of C p xs;
              changes = no_changes p s n;
              has_segment = ap (λ o. option_or o (F (FileName.Seg p s))) seg;
              has_delta = ap (λ o. option_or o (F (FileName.Del p s))) del;
              segment_file = record { base = base_is C cat T t fits p s h; text = refl };
              delta_file = record { p_is = refl; s_is = refl; delta = no_changes_are C cat T t fits p s h; text = refl };
              can_merge = record { rows = c; few = (many, tt) };
              image = is_fresh p s e ∙ is;
            }

    -- a join index that is not written survives, and its target has no lost segment
    unwritten : (p s q : ℕ) → HasSegment C p s → has_join C p q ≡ true → is_affected C L p s q ≡ false → (lost C L p s ≡ false) × (alive C L q ≡ true)
    unwritten p s q h d e =
        let a : (lost C L p s || not (alive C L q)) ≡ false = sym (ap (λ b. b && has_join C p q && (lost C L p s || not (alive C L q))) (exists_test p s h) ∙ ap (λ b. b && (lost C L p s || not (alive C L q))) d) ∙ e in
        parts (lost C L p s) (alive C L q) a
      where
        parts : (x y : Bool) → (x || not y) ≡ false → (x ≡ false) × (y ≡ true)
        parts true y f = false≢true (sym f)
        parts false true f = (refl, refl)
        parts false false f = false≢true (sym f)

    left_join : (p s q : ℕ) → HasSegment C p s → has_join C p q ≡ true → IsJoinOf G p s q (left.join p s q)
    left_join p s q h d = go (is_affected C L p s q) refl
      where
        hq : q < length C.projections
        hq = ((cat.projections p h.0).joins q d).0

        go : (b : Bool) → is_affected C L p s q ≡ b → IsJoinOf G p s q (left.join p s q)
        go true e =
            let es : List Place = entries_for C L S T p s q in
            let jix : out (FileName.Jix p s q) ≡ Some (join_index_text p s q es) = files (FileName.Jix p s q) ∙ ap (λ b. when b (join_index_text p s q es)) e in
            subst (IsJoinOf G p s q) (sym (ap (λ b. cond b es (S.join p s q)) e)) (record { bytes = join_index_text p s q es; has_file = ap (λ o. option_or o (F (FileName.Jix p s q))) jix; file = entries_file p s q h hq })
        go false e =
            let es : List Place = entries_for C L S T p s q in
            let jix : out (FileName.Jix p s q) ≡ None = files (FileName.Jix p s q) ∙ ap (λ b. when b (join_index_text p s q es)) e in
            let u = unwritten p s q h d e in
            subst (IsJoinOf G p s q) (sym (ap (λ b. cond b es (S.join p s q)) e)) (join_under F G p s q (S.join p s q) (ap (λ o. option_or o (F (FileName.Jix p s q))) jix) (reads.joins p s q ((h, d), u.0)))

    agrees_self : (q : ℕ) (e : Place) → agrees C [] q e e ≡ true
    agrees_self q e = ap (λ b. b && (e.1 == e.1)) (eq-eqb e.0 e.0 refl) ∙ eq-eqb e.1 e.1 refl

    all_self : (q : ℕ) (xs : List Place) → pointwise (agrees C [] q) xs xs ≡ true
    all_self q [] = refl
    all_self q (x ∷ xs) = ap (λ b. b && pointwise (agrees C [] q) xs xs) (agrees_self q x) ∙ all_self q xs

    -- if no segment of the target is lost, an entry that agrees under the loss agrees without it
    kept_exactly : (q : ℕ) (e place : Place) → q < length C.projections → alive C L q ≡ true → (place ≡ no_place) ⊎ IsGoodPlace q place → agrees C L q e place ≡ true → agrees C [] q e place ≡ true
    kept_exactly q e place hq a g x = sym (ap (λ b. (e.0 == place.0) && cond b (nat_le 1 e.1) (e.1 == place.1)) (none g)) ∙ x
      where
        dead : (b : Bool) (k : ℕ) → k ≡ 0 → (b && not (k == 0)) ≡ false
        dead true k z = ap not (eq-eqb k 0 z)
        dead false k z = refl

        none : (place ≡ no_place) ⊎ IsGoodPlace q place → (lost C L q place.0 && not (place.1 == 0)) ≡ false
        none (inl z) = dead (lost C L q place.0) place.1 (ap (λ (w : Place). w.1) z)
        none (inr w) = ap (λ b. b && not (place.1 == 0)) (alive_kept C cat L q hq a place.0 w.segment)

    left_contents : AreContentsOf C [] left T
    left_contents = record {
      images = λ p s v. (after p s v.0).rows;
      joins = λ p s q v. go p s q v.0.0 v.0.1 (is_affected C L p s q) refl;
    }
      where
        go : (p s q : ℕ) → HasSegment C p s → has_join C p q ≡ true → (b : Bool) → is_affected C L p s q ≡ b → pointwise (agrees C [] q) (left.join p s q) (entries_for C L S T p s q) ≡ true
        go p s q h d true e =
            let es : List Place = entries_for C L S T p s q in
            ap (λ xs. pointwise (agrees C [] q) xs es) (ap (λ b. cond b es (S.join p s q)) e) ∙ all_self q es
        go p s q h d false e =
            let es : List Place = entries_for C L S T p s q in
            let u = unwritten p s q h d e in
            let hq = ((cat.projections p h.0).joins q d).0 in
            let f : ℕ → Place = λ i. entry_for C L S T p s q (i + 1) in
            ap (λ xs. pointwise (agrees C [] q) xs es) (ap (λ b. cond b es (S.join p s q)) e)
            ∙ agree_map (agrees C L q) (agrees C [] q) f f (S.join p s q) (numbers_below (image_after C L S T p s).top) (λ i x y. kept_exactly q x (f i) hq u.1 (entry_good p s q (i + 1) hq) y) (same.joins p s q ((h, d), u.0))

    pub left_holds : Holds C (put_over out F) T
    left_holds = record {
      table = t;
      fits = fits;
      contents = left;
      reads = record { images = λ p s v. left_image p s v.0; joins = λ p s q v. left_join p s q v.0.0 v.0.1 };
      same = left_contents;
    }

-- The surviving files together with the written ones hold the table again.
pub whole_again : (C : CatalogData) → IsCatalog C → Layers C → (F : FileContents) (L : Sites) (T : List Row) → HoldsSurvivors C F L T → (out : FileContents) → AreExpected C F L T out → Holds C (put_over out F) T
whole_again C cat layers F L T h out x =
    let same = same_contents C cat layers F L h.contents x.contents h.reads x.reads T h.same in
    left_holds C cat layers F L x.contents x.reads T h.table h.fits same out x.files
