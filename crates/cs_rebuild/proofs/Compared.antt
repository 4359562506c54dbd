-- An image and rows of the table: from equal cells to equal rows, and back.
use Rattle.std.proofs.Common.{◌≡◌, ℕ, ◌<◌, ◌≤◌, List, map, length, sym, ap, ◌∙◌, inl, inr, ◌⊎◌, subst}
use Rattle.std.specs.Prelude.{slice_index, pos}
use Rattle.std.specs.List.{slice_get}
use Rattle.std.proofs.lemmas.Bool.{cases_lt}
use Rattle.std.proofs.lemmas.List.{length-map}
use Rattle.std.proofs.lemmas.Option.{slice_get-get_or}
use Rattle.cs_schema.specs.declared.cells.Value.{Value}
use Rattle.cs_schema.specs.Rows.{Row, cell}
use Rattle.cs_schema.specs.CatalogData.{CatalogData, projection, kind_at}
use Rattle.cs_schema.specs.CatalogRules.{IsCatalog}
use Rattle.cs_schema.specs.Lists.{IsIn}
use Rattle.cs_segment.specs.SegmentData.{kinds_at}
use Rattle.std.proofs.lemmas.List.FromFn.{length-map-range_with_len}
use Rattle.cs_schema.proofs.Lists.{slice_get_map}
use Rattle.cs_delta.specs.Image.{Pair, image_rows}
use Rattle.cs_delta.specs.KindedImage.{KindedImage, image_column}
use Rattle.cs_order.specs.Orders.{row_at}
use Rattle.cs_rebuild.specs.Comparing.{AreAlike, AreComparable, IsCellThere}
use Rattle.cs_rows.specs.WalkedView.{WalkedData}
use Rattle.cs_rebuild.proofs.CellsAlike.{column_exists, column_of, same_rows, same_cells, image_cells}

cell_alike : (ys : List Value) (ns : List ℕ) (k : ℕ) → k < length ns → slice_index ns k < length ys → slice_get (map (cell ys) ns) k ≡ slice_get ys (slice_index ns k)
cell_alike ys ns k l below = slice_get_map (cell ys) ns k (slice_index ns k) (slice_get-get_or ns k 0 l) ∙ sym (slice_get-get_or ys (slice_index ns k) (Value.Int (pos 0)) below)

-- the first cells, and the part after them
pub one_more_part : (cells column : List Value) (ns : List ℕ) (start end : ℕ) → AreAlike cells column ns 0 start → AreAlike cells column ns start end → AreAlike cells column ns 0 end
one_more_part cells column ns start end before here k z l = go (cases_lt k start)
  where
    go : (k < start) ⊎ (start ≤ k) → slice_get cells k ≡ slice_get column (slice_index ns k)
    go (inl m) = before k z m
    go (inr m) = here k m l

-- an image of a projection, and rows of the table
pub comparable : (C : CatalogData) (p : ℕ) (image : KindedImage) (walked : WalkedData) (ns : List ℕ) → IsCatalog C → p < length C.projections → image.kinds ≡ kinds_at C p → walked.kinds ≡ map (λ c. c.kind) C.columns
    → length image.image.pairs ≡ length ns → ((k : ℕ) → k < length ns → slice_index ns k < length walked.rows) → AreComparable image walked (projection C p).columns ns
comparable C p image walked ns cat exists kinds walked_kinds count below = record {
  count = count;
  width = ap length kinds ∙ length-map-range_with_len (kind_at C p) 0 (length (projection C p).columns);
  columns_exist = λ j l. subst (λ n. slice_index (projection C p).columns j < n) (sym (ap length walked_kinds ∙ length-map C.columns (λ c. c.kind))) (column_exists C cat p j exists l);
  rows_exist = below;
}

module _ (image : KindedImage) (walked : WalkedData) (cols ns : List ℕ) where
  -- an image with all cells of the rows has the rows
  pub rows_there : AreComparable image walked cols ns → ((x : List Value) → IsIn x (image_rows image.image) → length x ≡ length cols) → ((i k : ℕ) → i < length cols → k < length ns → IsCellThere image walked cols ns i k)
      → image_rows image.image ≡ map (λ (r : Row). map (cell r) cols) (map (row_at walked.rows) ns)
  rows_there c widths h =
      same_rows walked.rows cols (image_rows image.image) ns (length-map image.image.pairs (λ (x : Pair). x.1) ∙ c.count) widths c.rows_exist
      (λ j l. image_cells image.image j ∙ same_cells (image_column image.image j) (map (λ (row : Row). cell row (slice_index cols j)) walked.rows) ns (length-map image.image.pairs (λ (x : Pair). cell x.1 j) ∙ c.count) (λ k b. h j k l b))

  -- an image with the rows has all cells of them
  pub cells_there : AreComparable image walked cols ns → image_rows image.image ≡ map (λ (r : Row). map (cell r) cols) (map (row_at walked.rows) ns) → (i k : ℕ) → i < length cols → k < length ns → IsCellThere image walked cols ns i k
  cells_there c e i k l b =
      let column : List Value = map (λ (row : Row). cell row (slice_index cols i)) walked.rows in
      let cells : image_column image.image i ≡ map (cell column) ns = sym (image_cells image.image i) ∙ ap (map (λ x. cell x i)) e ∙ column_of walked.rows cols ns i l c.rows_exist in
      let long : length column ≡ length walked.rows = length-map walked.rows (λ (row : Row). cell row (slice_index cols i)) in
      let within : slice_index ns k < length column = subst (λ n. slice_index ns k < n) (sym long) (c.rows_exist k b) in
      ap (λ v. slice_get v k) cells ∙ cell_alike column ns k b within
