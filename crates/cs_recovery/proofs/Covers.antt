-- The accepted losses of a table are the safe ones that contain a site of each conflict.
use Rattle.std.proofs.Common.{◌≡◌, ℕ, ◌+◌, ◌<◌, ◌≤◌, List, refl, sym, ap, subst, ◌∙◌, Bool, true, false, ◌⊎◌, inl, inr, Option, Some, None, length, arith}
use Rattle.std.specs.Prelude.{IsTrue}
use Rattle.std.specs.List.{slice_get}
use Rattle.std.specs.Option.{option_and_then, option_map_or}
use Rattle.std.proofs.lemmas.Option.{same_Some, slice_get_within}
use Rattle.std.proofs.lemmas.List.FromFn.{length-map-range_with_len}
use Rattle.cs_schema.specs.declared.file_name.FileName.{FileName}
use Rattle.cs_schema.specs.Lists.{member, IsIn}
use Rattle.cs_schema.specs.CatalogData.{CatalogData}
use Rattle.cs_schema.specs.CatalogRules.{IsCatalog}
use Rattle.cs_schema.specs.FileNames.{FileContents, HasName, Survives}
use Rattle.cs_schema.specs.Losses.{Sites, lost}
use Rattle.cs_schema.specs.Order.{rows_of}
use Rattle.cs_schema.specs.Rows.{Row, segment_of_row}
use Rattle.cs_delta.specs.Image.{ImageData, image_keys, image_rows, position_of_key}
use Rattle.cs_jix.specs.JoinIndex.{Place, no_place}
use Rattle.cs_rows.specs.Walk.{Contents}
use Rattle.cs_recovery.specs.AcceptedLosses.{IsAcceptedLoss}
use Rattle.cs_recovery.specs.Conflicts.{IsEntryOf, IsKeyOf, Contradicts, IsConflict, HitsConflicts}
use Rattle.cs_recovery.specs.Contents.{IsImageOf, IsJoinOf}
use Rattle.cs_recovery.specs.Holding.{HoldsSurvivors, agrees}
use Rattle.cs_recovery.specs.Places.{image_after, place_of, entry_for, entries_for}
use Rattle.cs_schema.proofs.Lists.{in_at, agreed_at, slice_get-made}
use Rattle.cs_schema.proofs.RowOrder.{rows_of-are}
use Rattle.cs_safety.proofs.AliveLemmas.{segment_below}
use Rattle.cs_recovery.proofs.Agreeing.{agrees_if, dead_is, placed_is, kept_is, agreed_length}
use Rattle.cs_recovery.proofs.Exact.{Layers, sound}
use Rattle.cs_recovery.proofs.RowPlaces.{kept_after, place_kept, kept_row, place}
use Rattle.cs_recovery.proofs.Walks.{IsKeyed}

-- the place of a row at a position
abbrev pub entry_from : CatalogData → List Row → ℕ → ℕ → (Row → Place) → Option ℕ → Place
entry_from C T p s f o = option_map_or f (option_and_then (slice_get (rows_of C T p s)) o) no_place

-- ---- an accepted loss contains a site of each conflict

module _ (C : CatalogData) (cat : IsCatalog C) (layers : Layers C) (F : FileContents) (L : Sites) (T : List Row) (h : HoldsSurvivors C F L T) where
  abbrev S : Contents
  S = h.contents

  keyed : (p s : ℕ) → Survives C L (FileName.Seg p s) → IsKeyed (S.image p s)
  keyed p s v = layers.keyed F p s (S.image p s) (h.reads.images p s v)

  image_is : (p s : ℕ) (m : ImageData) → Survives C L (FileName.Seg p s) → IsImageOf C F p s m → m ≡ S.image p s
  image_is p s m v i = layers.one_image F p s v.0 m (S.image p s) i (h.reads.images p s v)

  join_is : (p s q : ℕ) (es : List Place) → Survives C L (FileName.Jix p s q) → IsJoinOf F p s q es → es ≡ S.join p s q
  join_is p s q es v i = layers.one_join F p s q es (S.join p s q) i (h.reads.joins p s q v)

  -- a surviving join index has an entry for each key
  count_is : (p s q : ℕ) → Survives C L (FileName.Jix p s q) → length (S.join p s q) ≡ (image_after C L S T p s).top
  count_is p s q v =
      agreed_length (agrees C L q) (S.join p s q) (entries_for C L S T p s q) (h.same.joins p s q v)
      ∙ length-map-range_with_len (λ i. entry_for C L S T p s q (i + 1)) 0 (image_after C L S T p s).top

  entry_agrees : (p s q before : ℕ) (e : Place) → Survives C L (FileName.Jix p s q) → slice_get (S.join p s q) before ≡ Some e → agrees C L q e (entry_for C L S T p s q (before + 1)) ≡ true
  entry_agrees p s q before e v at =
      let es : List Place = S.join p s q in
      let l : before < length es = slice_get_within es before e at in
      let c = count_is p s q v in
      let x = agreed_at (agrees C L q) es (entries_for C L S T p s q) (h.same.joins p s q v) before (entry_for C L S T p s q (before + 1))
      (slice_get-made (λ i. entry_for C L S T p s q (i + 1)) (image_after C L S T p s).top before (omega (arith, l, c))) in
      subst (λ w. agrees C L q w (entry_for C L S T p s q (before + 1)) ≡ true) (same_Some x.0 e (sym x.1 ∙ at)) x.2

  -- the entry for a key, by the position of the key
  entry_by : (p s q before : ℕ) (m : ImageData) (o : Option ℕ) → Survives C L (FileName.Seg p s) → IsImageOf C F p s m → position_of_key m (before + 1) ≡ o → entry_for C L S T p s q (before + 1) ≡ entry_from C T p s (place_of C L S T q) o
  entry_by p s q before m o v i e =
      ap (λ w. entry_from C T p s (place_of C L S T q) (position_of_key w (before + 1))) (kept_after C S T L p s v.1 ∙ sym (image_is p s m v i))
      ∙ ap (entry_from C T p s (place_of C L S T q)) e

  -- the entry of a row agrees with its place
  row_agrees : (p s q : ℕ) (r : Row) (e : Place) → Survives C L (FileName.Jix p s q) → IsEntryOf C F T p s q r e → agrees C L q e (place_of C L S T q r) ≡ true
  row_agrees p s q r e v n =
      let at : slice_get (S.join p s q) n.before ≡ Some e = ap (λ es. slice_get es n.before) (sym (join_is p s q n.entries v n.is_join)) ∙ n.entry in
      let is : entry_for C L S T p s q (n.before + 1) ≡ place_of C L S T q r =
      entry_by p s q n.before n.image (Some n.index) (v.0.0, v.1) n.is_image.reads n.live ∙ ap (λ o. option_map_or (place_of C L S T q) o no_place) n.row in
      subst (λ w. agrees C L q e w ≡ true) is (entry_agrees p s q n.before e v at)

  row_there : (p s index : ℕ) (r : Row) → slice_get (rows_of C T p s) index ≡ Some r → IsIn r T
  row_there p s index r e = (((rows_of-are C T h.table p s).members r).0 (in_at (rows_of C T p s) index r e)).0

  target : (p s q : ℕ) → HasName C (FileName.Jix p s q) → q < length C.projections
  target p s q n = ((cat.projections p n.0.0).joins q n.1).0

  none_contradicts : (n : FileName) → Survives C L n → Contradicts C F T n → ⊥
  none_contradicts n v (Contradicts.bad_file bad) = bad (sound C cat layers F L S h.reads n v)
  none_contradicts n v (Contradicts.other_rows p s m is i other) =
      let u : Survives C L (FileName.Seg p s) = subst (Survives C L) is v in
      other (ap image_rows (image_is p s m u i) ∙ h.same.images p s u)
  none_contradicts n v (Contradicts.other_count p s q m es is i j other) =
      let u : Survives C L (FileName.Jix p s q) = subst (Survives C L) is v in
      let here : Survives C L (FileName.Seg p s) = (u.0.0, u.1) in
      other (ap (λ xs. length xs) (join_is p s q es u j) ∙ count_is p s q u ∙ ap (λ (w : ImageData). w.top) (kept_after C S T L p s u.1 ∙ sym (image_is p s m here i)))
  none_contradicts n v (Contradicts.dead_key p s q m es before e is i j at dead other) =
      let u : Survives C L (FileName.Jix p s q) = subst (Survives C L) is v in
      let there : slice_get (S.join p s q) before ≡ Some e = ap (λ xs. slice_get xs before) (sym (join_is p s q es u j)) ∙ at in
      let a : agrees C L q e no_place ≡ true = subst (λ w. agrees C L q e w ≡ true) (entry_by p s q before m None (u.0.0, u.1) i dead) (entry_agrees p s q before e u there) in
      other (dead_is (lost C L q 0) e a)
  none_contradicts n v (Contradicts.wrong_place p s q r e is en bad) =
      let u : Survives C L (FileName.Jix p s q) = subst (Survives C L) is v in
      let w = place C S T cat L h.table h.same keyed q r (target p s q u.0) (row_there p s en.index r en.row) in
      let a : agrees_if (lost C L q (segment_of_row C q r)) e (segment_of_row C q r, w.key) ≡ true = subst (λ (x : Place). agrees C L q e x ≡ true) w.is (row_agrees p s q r e u en) in
      wrong bad (placed_is (lost C L q (segment_of_row C q r)) e (segment_of_row C q r) w.key w.some a)
    where
      wrong : (e.0 ≡ segment_of_row C q r → ⊥) ⊎ (e.1 ≡ 0) → (e.0 ≡ segment_of_row C q r) × (1 ≤ e.1) → ⊥
      wrong (inl other) x = other x.0
      wrong (inr none) x = absurd (let y = x.1 in omega (arith, none, y))

  -- two surviving sites name a row by the same key
  keys_agree : (p s q : ℕ) (r : Row) (e : Place) (key : ℕ) → Survives C L (FileName.Jix p s q) → lost C L q (segment_of_row C q r) ≡ false → IsEntryOf C F T p s q r e → IsKeyOf C F T q r key → e.1 ≡ key
  keys_agree p s q r e key v l en k =
      let t : ℕ = segment_of_row C q r in
      let hq = target p s q v.0 in
      let here : Survives C L (FileName.Seg q t) = ((hq, segment_below C q r), l) in
      let mine = kept_row C S T cat L h.table h.same keyed q r hq (row_there p s en.index r en.row) l in
      let a : agrees_if false e (t, mine.key) ≡ true = ap (λ b. agrees_if b e (t, mine.key)) (sym l) ∙ subst (λ (x : Place). agrees C L q e x ≡ true) (place_kept C S T L q r mine l) (row_agrees p s q r e v en) in
      let index : mine.index ≡ k.index = same_Some mine.index k.index (sym mine.of_row ∙ k.row) in
      let at : slice_get (image_keys (S.image q t)) k.index ≡ Some key = ap (λ w. slice_get (image_keys w) k.index) (sym (image_is q t k.image here k.is_image.reads)) ∙ k.live in
      kept_is e t mine.key a ∙ same_Some mine.key key (sym mine.at ∙ ap (slice_get (image_keys (S.image q t))) index ∙ at)

  apart : (x y : ℕ) → IsConflict C F T x y → member L x ≡ false → member L y ≡ false → ⊥
  apart x y (IsConflict.alone n name k ex ey) mx my = none_contradicts n (name, ap (member L) (sym ex) ∙ mx) k
  apart x y (IsConflict.pair p s q r e key name en k other ex ey) mx my = other (keys_agree p s q r e key (name, ap (member L) (sym ex) ∙ mx) (ap (member L) (sym ey) ∙ my) en k)

  covers : HitsConflicts C F T L
  covers x y c = go (member L x) (member L y) refl refl
    where
      go : (a b : Bool) → member L x ≡ a → member L y ≡ b → IsTrue (member L x) ⊎ IsTrue (member L y)
      go true b e f = inl e
      go false true e f = inr f
      go false false e f = absurd (apart x y c e f)

pub accepted_hits : (C : CatalogData) → IsCatalog C → Layers C → (F : FileContents) (L : Sites) (T : List Row) → IsAcceptedLoss C F L T → HitsConflicts C F T L
accepted_hits C cat layers F L T a = covers C cat layers F L T a.holds
