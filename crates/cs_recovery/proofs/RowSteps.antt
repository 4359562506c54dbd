-- If files hold a table, an entry of a row of a surviving segment leads to the same row, or to a lost segment that has
-- it.
use Rattle.std.proofs.Common.{◌≡◌, ℕ, zero, suc, ◌+◌, ◌<◌, ◌≤◌, List, [], ◌∷◌, map, refl, sym, ap, subst, ◌∙◌, Bool, true, false, not, cond, ◌&&◌, ◌⊎◌, inl, inr, Option, Some, length, arith, ◌==◌, eqb-true, eq-eqb, pos}
use Rattle.std.specs.Prelude.{slice_index, slice_index_or, IsTrue, nat_le}
use Rattle.std.specs.List.{slice_get, position_or_len, enumerate_from}
use Rattle.std.specs.Option.{option_map_or}
use Rattle.std.proofs.lemmas.Option.{get_or_from_slice_get, slice_get_within}
use borrow.Author.Tests.{lt-ltb, leb-true}
use Rattle.cs_schema.specs.declared.cells.Value.{Value}
use Rattle.cs_schema.specs.declared.file_name.FileName.{FileName}
use Rattle.cs_schema.specs.CatalogData.{CatalogData, projection, segments, has_join}
use Rattle.cs_schema.specs.CatalogRules.{IsCatalog}
use Rattle.cs_schema.specs.Rows.{Row, IsTable, segment_of_row, project, cell}
use Rattle.cs_schema.specs.Lists.{IsIn}
use Rattle.cs_schema.specs.FileNames.{Survives}
use Rattle.cs_schema.specs.Losses.{Sites, lost}
use Rattle.cs_schema.specs.Order.{rows_of, index_of}
use Rattle.cs_delta.specs.Image.{Pair, image_keys, image_rows, position_of_key, fresh_image}
use Rattle.cs_jix.specs.JoinIndex.{Place, entry_at}
use Rattle.cs_safety.specs.Paths.{holds_column}
use Rattle.cs_rows.specs.Walk.{Contents, At, entry_of, image_cell}
use Rattle.cs_rows.specs.WalkByRows.{Landing, landing}
use Rattle.cs_recovery.specs.Holding.{AreContentsOf, agrees}
use Rattle.cs_recovery.specs.Places.{image_after, place_of, entry_for, entries_for}
use Rattle.cs_schema.proofs.Ascending.{false≢true}
use Rattle.cs_schema.proofs.Lists.{found_first, agreed_at, slice_get-made, slice_get_map}
use Rattle.cs_safety.proofs.Distances.{differs}
use Rattle.cs_recovery.proofs.WalkedRows.{member_in}
use Rattle.cs_recovery.proofs.Walks.{IsKeyed, IsHome, HasKey, has_index, has_key, kept_image, place_is, entry_is, at_key, entry_found}
use Rattle.cs_safety.proofs.AliveLemmas.{segment_below}

left_true : (s t : Bool) → (s && t) ≡ true → s ≡ true
left_true true t h = refl
left_true false t h = h

right_true : (s t : Bool) → (s && t) ≡ true → t ≡ true
right_true true t h = h
right_true false t h = false≢true h

before_one : (k : ℕ) → 1 ≤ k → (m : ℕ) × (k ≡ suc m)
before_one zero h = absurd (omega arith)
before_one (suc m) h = (m, refl)

pub fresh_keys : (n : ℕ) (xs : List (List Value)) (j : ℕ) → j < length xs → slice_get (map (λ (x : Pair). x.0) (enumerate_from n xs)) j ≡ Some (n + j)
fresh_keys n [] j l = absurd (omega arith)
fresh_keys n (x ∷ xs) zero l = ap Some (omega arith)
fresh_keys n (x ∷ xs) (suc j) l = fresh_keys (n + 1) xs j (omega arith) ∙ ap Some (omega arith)

module _ (C : CatalogData) (cat : IsCatalog C) (L : Sites) (S : Contents) (T : List Row) (table : IsTable C T) (same : AreContentsOf C L S T) (keyed : (p s : ℕ) → Survives C L (FileName.Seg p s) → IsKeyed (S.image p s)) where
  abbrev pub Home : ℕ → Row → At → Type 0
  Home q r at = IsHome C cat L S T table same keyed q r at

  -- the place of a row in a projection in which it is lost: its segment, and a key of at least 1
  lost_place : (q : ℕ) (r : Row) → IsIn r T → lost C L q (segment_of_row C q r) ≡ true → (k : ℕ) × (1 ≤ k) × (place_of C L S T q r ≡ (segment_of_row C q r, k))
  lost_place q r h l =
      let t : ℕ = segment_of_row C q r in
      let j = has_index C cat L S T table same keyed q r h in
      let cells : List (List Value) = map (project C q) (rows_of C T q t) in
      let below : j.index < length cells = slice_get_within cells j.index (project C q r) (slice_get_map (project C q) (rows_of C T q t) j.index r j.at) in
      let after : image_after C L S T q t ≡ fresh_image cells = ap (λ b. cond b (fresh_image cells) (S.image q t)) l in
      let f : List ℕ → Option ℕ → ℕ = λ ks o. option_map_or (λ i. slice_index ks i) o 0 in
      let key : f (image_keys (image_after C L S T q t)) (index_of C T q r) ≡ 1 + j.index =
      ap (f (image_keys (image_after C L S T q t))) j.is ∙ ap (λ w. f (image_keys w) (Some j.index)) after ∙ get_or_from_slice_get (image_keys (fresh_image cells)) j.index (1 + j.index) 0 (fresh_keys 1 cells j.index below) in
      (1 + j.index, omega arith, ap (λ v. (t, v)) key)

  lost_agrees : (q t k : ℕ) (e : Place) → lost C L q t ≡ true → 1 ≤ k → agrees C L q e (t, k) ≡ true → (e.0 ≡ t) × (1 ≤ e.1)
  lost_agrees q t k e l h a =
      let z : (k == 0) ≡ false = differs k 0 (λ w. omega (arith, w, h)) (k == 0) refl in
      let f : Bool → Bool → Bool = λ x y. (e.0 == t) && cond (x && not y) (nat_le 1 e.1) (e.1 == k) in
      let b : f true false ≡ true = sym (ap (λ w. f w (k == 0)) l ∙ ap (f true) z) ∙ a in
      (eqb-true e.0 t (left_true (e.0 == t) (nat_le 1 e.1) b), leb-true 1 e.1 (right_true (e.0 == t) (nat_le 1 e.1) b))

  -- how an entry to q ends for a row
  abbrev pub Landed : ℕ → Row → Landing → Type 0
  Landed q r x = ((lost C L q (segment_of_row C q r) ≡ true) × (x ≡ Landing.in_lost)) ⊎ ((to : At) × (lost C L q (segment_of_row C q r) ≡ false) × (x ≡ Landing.at_row to) × Home q r to)

  abbrev land : ℕ → ℕ → Bool → Bool → Option ℕ → Landing
  land q t b l o = cond b (cond l Landing.in_lost (option_map_or (λ i. Landing.at_row (t, i)) o Landing.astray)) Landing.astray

  -- an entry of a row of a surviving segment leads to the row, or to its lost segment
  pub landing_home : (p q : ℕ) (r : Row) (at : At) → p < length C.projections → q < length C.projections → IsTrue (has_join C p q) → IsIn r T → Home p r at → lost C L p at.0 ≡ false → Landed q r (landing C L S q (entry_of S p q at))
  landing_home p q r at hp hq hj h home ls = go (lost C L q t) refl
    where
      t : ℕ
      t = segment_of_row C q r

      s : ℕ
      s = at.0

      i : ℕ
      i = at.1

      hs : s < segments C p
      hs = subst (λ w. w < segments C p) (sym home.segment) (segment_below C p r)

      vs : Survives C L (FileName.Seg p s)
      vs = ((hp, hs), ls)

      vj : Survives C L (FileName.Jix p s q)
      vj = (((hp, hs), hj), ls)

      k : HasKey C cat L S T table same keyed p s i r
      k = has_key C cat L S T table same keyed p s i r vs home.here

      kr : (1 ≤ k.key) × (k.key ≤ (S.image p s).top)
      kr = (keyed p s vs).range i k.key k.at

      made : (m : ℕ) → k.key ≡ suc m → slice_get (entries_for C L S T p s q) m ≡ Some (place_of C L S T q r)
      made m e =
          let top : m < (image_after C L S T p s).top = subst (λ w. m < w.top) (sym (kept_image C cat L S T table same keyed p s ls)) (omega (arith, kr.1)) in
          let same_key : m + 1 ≡ k.key = omega arith in
          slice_get-made (λ x. entry_for C L S T p s q (x + 1)) (image_after C L S T p s).top m top ∙ ap (λ x. Some (entry_for C L S T p s q x)) same_key ∙ ap Some (entry_is C cat L S T table same keyed p s q i r vs home.here k)

      agreed : (m : ℕ) → k.key ≡ suc m → (e : Place) × (slice_get (S.join p s q) m ≡ Some e) × (agrees C L q e (place_of C L S T q r) ≡ true)
      agreed m e = agreed_at (agrees C L q) (S.join p s q) (entries_for C L S T p s q) (same.joins p s q vj) m (place_of C L S T q r) (made m e)

      from : entry_of S p q at ≡ entry_at (S.join p s q) k.key
      from = ap (λ x. entry_at (S.join p s q) x) (get_or_from_slice_get (image_keys (S.image p s)) i k.key 0 k.at)

      ht : t < segments C q
      ht = segment_below C q r

      go : (b : Bool) → lost C L q t ≡ b → Landed q r (landing C L S q (entry_of S p q at))
      go false lt =
          let vt : Survives C L (FileName.Seg q t) = ((hq, ht), lt) in
          let j = has_index C cat L S T table same keyed q r h in
          let n = has_key C cat L S T table same keyed q t j.index r vt j.at in
          let nr = (keyed q t vt).range j.index n.key n.at in
          let place : place_of C L S T q r ≡ (t, n.key) = place_is C cat L S T table same keyed q r j vt n in
          let found : entry_at (S.join p s q) k.key ≡ Some (t, n.key) =
          at_key C cat L S T table same keyed (S.join p s q) q k.key r t n.key lt kr.0 nr.0 (λ m e. let x = agreed m e in (x.0, x.1, subst (λ w. agrees C L q x.0 w ≡ true) place x.2)) in
          let to : landing C L S q (Some (t, n.key)) ≡ Landing.at_row (t, j.index) =
          ap (λ b. land q t b (lost C L q t) (position_of_key (S.image q t) n.key)) (lt-ltb t (segments C q) ht) ∙ ap (λ b. land q t true b (position_of_key (S.image q t) n.key)) lt ∙ ap (land q t true false) ((keyed q t vt).found j.index n.key n.at) in
          inr ((t, j.index), lt, ap (landing C L S q) (from ∙ found) ∙ to, record { segment = refl; here = j.at })
      go true lt =
          let place = lost_place q r h lt in
          let m = before_one k.key kr.0 in
          let x = agreed m.0 m.1 in
          let e : Place = x.0 in
          let y = lost_agrees q t place.0 e lt place.1 (subst (λ w. agrees C L q e w ≡ true) place.2 x.2) in
          let segment : e.0 ≡ t = y.0 in
          let some : 1 ≤ e.1 = y.1 in
          let found : entry_at (S.join p s q) k.key ≡ Some e = ap (entry_at (S.join p s q)) m.1 ∙ entry_found C cat L S T table same keyed (S.join p s q) m.0 e x.1 some in
          let to : landing C L S q (Some e) ≡ Landing.in_lost =
          ap (λ b. land q e.0 b (lost C L q e.0) (position_of_key (S.image q e.0) e.1)) (lt-ltb e.0 (segments C q) (subst (λ w. w < segments C q) (sym segment) ht)) ∙ ap (λ b. land q e.0 true b (position_of_key (S.image q e.0) e.1)) (ap (lost C L q) segment ∙ lt) in
          inl (lt, ap (landing C L S q) (from ∙ found) ∙ to)

  -- a cell of the row, read in an image that has the row
  pub image_cell_is : (q : ℕ) (r : Row) (to : At) (c : ℕ) → q < length C.projections → Home q r to → lost C L q to.0 ≡ false → IsTrue (holds_column C q c) → image_cell C S q c to ≡ cell r c
  image_cell_is q r to c hq home l hold =
      let v : Survives C L (FileName.Seg q to.0) = ((hq, subst (λ w. w < segments C q) (sym home.segment) (segment_below C q r)), l) in
      let k = has_key C cat L S T table same keyed q to.0 to.1 r v home.here in
      let columns : List ℕ = (projection C q).columns in
      let found = found_first (λ d. d == c) columns c (member_in columns c hold) (eq-eqb c c refl) in
      let j : ℕ = position_or_len (λ d. d == c) columns in
      let there : slice_get (project C q r) j ≡ Some (cell r c) = slice_get_map (cell r) columns j found.item found.at ∙ ap (λ w. Some (cell r w)) (eqb-true found.item c found.passes) in
      let row : slice_index_or (image_rows (S.image q to.0)) to.1 [] ≡ project C q r = get_or_from_slice_get (image_rows (S.image q to.0)) to.1 (project C q r) [] k.cells in
      ap (λ w. cell w j) row ∙ get_or_from_slice_get (project C q r) j (cell r c) (Value.Int (pos 0)) there
