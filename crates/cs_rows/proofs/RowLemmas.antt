-- The walk from one row.
use Rattle.std.proofs.Common.{◌≡◌, ℕ, suc, ◌+◌, ◌<◌, List, [], ◌∷◌, length, get_or, refl, sym, ap, ◌∙◌, subst, arith, Bool, true, false, not, cond, ◌||◌, Option, Some, inl, inr, eqb-true, true≢false, zero-add, ◌==◌}
use Rattle.std.specs.Prelude.{slice_index, slice_index_or, pos}
use Rattle.std.specs.List.{list_any, position_or_len}
use Rattle.std.proofs.lemmas.List.{get_or-map}
use Rattle.cs_schema.specs.declared.cells.Value.{Value}
use Rattle.cs_schema.specs.declared.kinds.Kind.{Kind}
use Rattle.cs_schema.specs.Lists.{numbers_below}
use Rattle.cs_schema.specs.CatalogData.{CatalogData, column, projection}
use Rattle.cs_schema.specs.Lists.{IsIn}
use Rattle.cs_schema.specs.Rows.{cell}
use Rattle.cs_schema.specs.CatalogData.{kind_at}
use Rattle.cs_delta.specs.Image.{ImageData, Pair}
use Rattle.cs_safety.specs.PlanData.{PlanData}
use Rattle.cs_rows.specs.Walk.{At, image_cell}
use Rattle.cs_schema.proofs.Lists.{in_range, range_in}
use Rattle.cs_delta.specs.KindedImage.{KindedImage, image_column}
use Rattle.cs_segment.specs.SegmentData.{kinds_at}
use Rattle.std.proofs.lemmas.List.FromFn.{get_or-map-range_with_len, length-map-range_with_len}
use Rattle.cs_rows.specs.Survivors.{SurvivorsData, contents_of, image_at, image_row, held}
use Rattle.cs_rows.specs.Steps.{IsAt, PlanFits}
use Rattle.cs_rows.specs.Columns.{index_of}

-- ---- tests over the numbers below n

pub none_any : {X : Type 0} (t : X → Bool) (xs : List X) → ((x : X) → IsIn x xs → t x ≡ false) → list_any t xs ≡ false
none_any t [] h = refl
none_any t (x ∷ xs) h = λ i. h x (inl refl) i || none_any t xs (λ y k. h y (inr k)) i

pub some_any : {X : Type 0} (t : X → Bool) (xs : List X) (x : X) → IsIn x xs → t x ≡ true → list_any t xs ≡ true
some_any t [] x h e = absurd h
some_any t (y ∷ ys) x (inl a) e = ap (λ b. b || list_any t ys) (sym (ap t a) ∙ e)
some_any t (y ∷ ys) x (inr h) e = ap (λ b. t y || b) (some_any t ys x h e) ∙ or_true (t y)
  where
    or_true : (b : Bool) → (b || true) ≡ true
    or_true true = refl
    or_true false = refl

pub none_below : (t : ℕ → Bool) (n : ℕ) → ((k : ℕ) → k < n → t k ≡ false) → list_any t (numbers_below n) ≡ false
none_below t n h = none_any t (numbers_below n) (λ k i. h k (omega (arith, (in_range 0 n k i).1)))

pub some_below : (t : ℕ → Bool) (n k : ℕ) → k < n → t k ≡ true → list_any t (numbers_below n) ≡ true
some_below t n k h e = some_any t (numbers_below n) k (range_in 0 n k (omega arith) (omega arith)) e

-- ---- a column of an image

pub column_cell : (m : ImageData) (i j : ℕ) → i < length m.pairs → cell (image_column m j) i ≡ cell (image_row m i) j
column_cell m i j h =
    get_or-map (λ (x : Pair). cell x.1 j) m.pairs i (0, []) (Value.Int (pos 0)) h
    ∙ ap (λ (r : List Value). cell r j) (sym (get_or-map (λ (x : Pair). x.1) m.pairs i (0, []) [] h))

-- ---- where a column is read

pub position_first : {X : Type 0} (p : X → Bool) (xs : List X) (d : X) → list_any p xs ≡ true → (position_or_len p xs < length xs) × (p (get_or xs (position_or_len p xs) d) ≡ true)
position_first p [] d h = absurd (true≢false (sym h))
position_first {X} p (x ∷ xs) d h =
    elim (p x) as (λ b. p x ≡ b → (cond (not b) (1 + position_or_len p xs) 0 < suc (length xs)) × (p (get_or (x ∷ xs) (cond (not b) (1 + position_or_len p xs) 0) d) ≡ true)) [
      | true ↦ λ e. (omega arith, e)
      | false ↦ λ e. later (position_first p xs d (sym (ap (λ b. b || list_any p xs) e) ∙ h))
    ] refl
  where
    later : (position_or_len p xs < length xs) × (p (get_or xs (position_or_len p xs) d) ≡ true) → (1 + position_or_len p xs < suc (length xs)) × (p (get_or (x ∷ xs) (1 + position_or_len p xs) d) ≡ true)
    later r =
        let a : position_or_len p xs < length xs = r.0 in
        let n : 1 + position_or_len p xs ≡ suc (position_or_len p xs) = omega arith in
        (omega arith, ap (λ k. p (get_or (x ∷ xs) k d)) n ∙ r.1)

module _ (C : CatalogData) (P : PlanData) (fits : PlanFits C P) (c : ℕ) (h : c < length C.columns) where
  found : (index_of C P c < length (projection C (slice_index P.source c)).columns) × ((slice_index (projection C (slice_index P.source c)).columns (index_of C P c) == c) ≡ true)
  found = position_first (λ d. d == c) (projection C (slice_index P.source c)).columns 0 (fits.holds c h)

  -- the column of the table in the images of the projection in which it is read
  pub read_there : (q j : ℕ) (kinds : List Kind) → q ≡ slice_index P.source c → j ≡ index_of C P c → kinds ≡ kinds_at C q → (j < length kinds) × (slice_index_or kinds j Kind.Int ≡ (column C c).kind)
  read_there q j kinds a b e =
      let p : ℕ = slice_index P.source c in
      let at : ℕ = index_of C P c in
      let n : ℕ = length (projection C p).columns in
      let same : kinds ≡ kinds_at C p = e ∙ ap (kinds_at C) a in
      let wide : length kinds ≡ n = ap length same ∙ length-map-range_with_len (kind_at C p) 0 n in
      let inside : at < n = found.0 in (
        omega (arith, wide, b, inside),
        (λ i. slice_index_or (same i) (b i) Kind.Int) ∙ get_or-map-range_with_len (kind_at C p) 0 n at at Kind.Int inside (zero-add at) ∙ ap (λ (x : ℕ). (column C x).kind) (eqb-true _ c found.1),
      )

  -- its cell in a row there
  pub cell_there : (S : SurvivorsData) (q j : ℕ) (id : At) (m : KindedImage) → q ≡ slice_index P.source c → j ≡ index_of C P c → image_at S q id.0 ≡ Some m → IsAt C (contents_of S) (slice_index P.source c) id
      → (id.1 < length m.image.pairs) × (cell (image_row m.image id.1) j ≡ image_cell C (contents_of S) (slice_index P.source c) c id)
  cell_there S q j id m a b e at =
      let there : image_at S (slice_index P.source c) id.0 ≡ Some m = subst (λ (p : ℕ). image_at S p id.0 ≡ Some m) a e in (
        subst (λ (o : Option KindedImage). id.1 < length (held o).pairs) there at.1,
        ap (cell (image_row m.image id.1)) b ∙ ap (λ (o : Option KindedImage). cell (image_row (held o) id.1) (index_of C P c)) (sym there),
      )
