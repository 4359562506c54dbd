-- At which value a range with too many rows is cut.
use Rattle.std.specs.Prelude.{◌≡◌, ◌==◌, ℕ, List, map, Option, None, Some, slice_get, slice_index, option_and_then, if◌then◌else◌}
use Rattle.std.specs.List.{filter}
use Rattle.std.specs.List.Sorted.{IsPermutation, IsSorted}
use Rattle.cs_schema.specs.CatalogData.{CatalogData, projection}
use Rattle.cs_schema.specs.Order.{row_limit}
use Rattle.cs_schema.specs.Rows.{Row, cell, segment_of_row}
use Rattle.cs_schema.specs.Values.{value_cmp, value_eq}
use Rattle.cs_schema.specs.declared.cells.Value.{Value}

-- by which values the projection is cut, of the rows in the range of a segment
abbrev pub values_in : CatalogData → ℕ → ℕ → List Row → List Value
values_in C p s rows = map (λ row. cell row (slice_index (projection C p).sort 0)) (filter (λ row. segment_of_row C p row == s) rows)

-- of values in ascending order the one behind as many as fit into a segment, if a lesser one comes before
abbrev pub cut_of : List Value → Option Value
cut_of sorted = option_and_then (λ least. option_and_then (λ cut. if value_eq least cut then None else Some cut) (slice_get sorted row_limit)) (slice_get sorted 0)

-- that of these values, once they are in order
abbrev pub IsCut : List Value → Option Value → Type 0
IsCut found cut = (sorted : List Value) × IsPermutation found sorted × IsSorted value_cmp sorted × (cut ≡ cut_of sorted)
