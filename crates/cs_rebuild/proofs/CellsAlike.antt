-- Columns of cells at some rows, and rows compared cell by cell.
use Rattle.std.proofs.Common.{◌≡◌, ℕ, suc, ◌<◌, List, [], ◌∷◌, map, length, refl, sym, ap, ◌∙◌, inl, inr, arith, get_or}
use Rattle.std.specs.Prelude.{slice_index, pos}
use Rattle.std.specs.List.{slice_get}
use Rattle.std.proofs.lemmas.List.{length-map}
use Rattle.std.proofs.lemmas.List.FromFn.{fill_by_all}
use Rattle.std.proofs.lemmas.Option.{get_or_from_slice_get, slice_get-get_or}
use Rattle.cs_schema.specs.declared.cells.Value.{Value}
use Rattle.cs_schema.specs.CatalogData.{CatalogData, projection}
use Rattle.cs_schema.specs.CatalogRules.{IsCatalog}
use Rattle.cs_schema.specs.Lists.{IsIn}
use Rattle.cs_schema.specs.Rows.{Row, cell}
use Rattle.cs_schema.proofs.Lists.{in_at, in_member, slice_get_map}
use Rattle.cs_delta.specs.Image.{ImageData, Pair, image_rows}
use Rattle.cs_delta.specs.KindedImage.{image_column}
use Rattle.cs_order.specs.Orders.{row_at}

abbrev tail_of : {X : Type 0} → List X → List X
tail_of [] = []
tail_of (x ∷ xs) = xs

-- cells that equal those of another column one by one
pub same_cells : (xs ys : List Value) (ns : List ℕ) → length xs ≡ length ns → ((m : ℕ) → m < length ns → slice_get xs m ≡ slice_get ys (slice_index ns m)) → xs ≡ map (cell ys) ns
same_cells [] ys [] e h = refl
same_cells [] ys (n ∷ ns) e h = absurd (omega (arith, e))
same_cells (x ∷ xs) ys [] e h = absurd (omega (arith, e))
same_cells (x ∷ xs) ys (n ∷ ns) e h =
    let first : cell ys n ≡ x = get_or_from_slice_get ys n x _ (sym (h 0 (omega arith))) in
    ap (λ v. v ∷ xs) (sym first) ∙ ap (λ l. cell ys n ∷ l) (same_cells xs ys ns (omega (arith, e)) (λ m l. h (suc m) (omega arith)))

-- ---- rows, from their columns

module _ (rows : List Row) (cols : List ℕ) where
  abbrev column : ℕ → List Value
  column j = map (λ (row : Row). cell row (slice_index cols j)) rows

  cell_at : (n j : ℕ) → n < length rows → cell (column j) n ≡ cell (row_at rows n) (slice_index cols j)
  cell_at n j l = get_or_from_slice_get (column j) n (cell (row_at rows n) (slice_index cols j)) _ (slice_get_map (λ (row : Row). cell row (slice_index cols j)) rows n (row_at rows n) (slice_get-get_or rows n [] l))

  kept_cell : (n j : ℕ) → j < length cols → cell (map (cell (row_at rows n)) cols) j ≡ cell (row_at rows n) (slice_index cols j)
  kept_cell n j l =
      get_or_from_slice_get (map (cell (row_at rows n)) cols) j (cell (row_at rows n) (slice_index cols j)) _ (slice_get_map (cell (row_at rows n)) cols j (slice_index cols j) (slice_get-get_or cols j 0 l))

  -- the cells of a column, as those of the rows
  pub column_of : (ns : List ℕ) (j : ℕ) → j < length cols → ((k : ℕ) → k < length ns → slice_index ns k < length rows) → map (λ x. cell x j) (map (λ (r : Row). map (cell r) cols) (map (row_at rows) ns)) ≡ map (cell (column j)) ns
  column_of [] j l below = refl
  column_of (n ∷ ns) j l below =
      ap (λ v. v ∷ map (λ x. cell x j) (map (λ (r : Row). map (cell r) cols) (map (row_at rows) ns))) (kept_cell n j l ∙ sym (cell_at n j (below 0 (omega arith))))
      ∙ ap (λ t. cell (column j) n ∷ t) (column_of ns j l (λ k m. below (suc k) (omega arith)))

  one_row : (x : List Value) (n : ℕ) → length x ≡ length cols → ((j : ℕ) → j < length cols → cell x j ≡ cell (row_at rows n) (slice_index cols j)) → x ≡ map (cell (row_at rows n)) cols
  one_row x n e h =
      fill_by_all (λ j. cell (row_at rows n) (slice_index cols j)) x (length cols) (Value.Int (pos 0)) e h
      ∙ sym (fill_by_all (λ j. cell (row_at rows n) (slice_index cols j)) (map (cell (row_at rows n)) cols) (length cols) (Value.Int (pos 0)) (length-map cols (cell (row_at rows n))) (λ j l. kept_cell n j l))

  -- rows that have the columns of other rows are these rows
  pub same_rows : (xs : List (List Value)) (ns : List ℕ) → length xs ≡ length ns → ((x : List Value) → IsIn x xs → length x ≡ length cols) → ((k : ℕ) → k < length ns → slice_index ns k < length rows)
      → ((j : ℕ) → j < length cols → map (λ x. cell x j) xs ≡ map (cell (column j)) ns) → xs ≡ map (λ (r : Row). map (cell r) cols) (map (row_at rows) ns)
  same_rows [] [] e w below h = refl
  same_rows [] (n ∷ ns) e w below h = absurd (omega (arith, e))
  same_rows (x ∷ xs) [] e w below h = absurd (omega (arith, e))
  same_rows (x ∷ xs) (n ∷ ns) e w below h =
      let first : x ≡ map (cell (row_at rows n)) cols = one_row x n (w x (inl refl)) (λ j l. ap (λ l. get_or l 0 (Value.Int (pos 0))) (h j l) ∙ cell_at n j (below 0 (omega arith))) in
      ap (λ y. y ∷ xs) first
      ∙ ap (λ t. map (cell (row_at rows n)) cols ∷ t) (same_rows xs ns (omega (arith, e)) (λ y i. w y (inr i)) (λ k m. below (suc k) (omega arith)) (λ j l. ap tail_of (h j l)))

-- the columns of a projection are columns of the table
pub column_exists : (C : CatalogData) → IsCatalog C → (p j : ℕ) → p < length C.projections → j < length (projection C p).columns → slice_index (projection C p).columns j < length C.columns
column_exists C cat p j h l =
    (cat.projections p h).columns (slice_index (projection C p).columns j) (in_member (projection C p).columns (slice_index (projection C p).columns j) (in_at (projection C p).columns j (slice_index (projection C p).columns j) (slice_get-get_or (projection C p).columns j 0 l)))

-- the cells of an image's column, as those of its rows
pub image_cells : (m : ImageData) (j : ℕ) → map (λ x. cell x j) (image_rows m) ≡ image_column m j
image_cells m j = pairs m.pairs
  where
    pairs : (xs : List Pair) → map (λ x. cell x j) (map (λ (x : Pair). x.1) xs) ≡ map (λ (x : Pair). cell x.1 j) xs
    pairs [] = refl
    pairs (x ∷ xs) = ap (λ l. cell x.1 j ∷ l) (pairs xs)
