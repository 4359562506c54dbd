-- The values that decide which projections keep a row: the cuts on a column, and the least value of its kind.
use Rattle.std.specs.Prelude.{ℕ, ◌==◌, ◌&&◌, if◌then◌else◌, List, [], ◌∷◌, map, length, slice_index, negsuc}
use Rattle.std.specs.List.{flat_map, range_with_len}
use Rattle.std.specs.Ordering.{is_le}
use Rattle.cs_schema.specs.declared.kinds.Kind.{Kind}
use Rattle.cs_schema.specs.declared.cells.Value.{Value}
use Rattle.cs_schema.specs.Values.{value_cmp}
use Rattle.cs_schema.specs.CatalogData.{CatalogData, projection, column}
use Rattle.cs_schema.specs.Rows.{Row, cell}

-- the int of 64 bits that no other is below, the empty text
abbrev pub least_of : Kind → Value
least_of Kind.Int = Value.Int (negsuc 9223372036854775807)
least_of Kind.Text = Value.Text []

-- the column whose cuts make a projection's segments
abbrev pub first_sort : CatalogData → ℕ → ℕ
first_sort C p = slice_index (projection C p).sort 0

-- the cuts on a column, of any projection
abbrev pub cuts_on : CatalogData → ℕ → List Value
cuts_on C c = flat_map (λ p. if first_sort C p == c then (projection C p).cuts else []) (range_with_len 0 (length C.projections))

-- the greatest of some cuts that is not above v, else d
abbrev pub greatest_below : Value → Value → List Value → Value
greatest_below d v [] = d
greatest_below d v (c ∷ cs) = if is_le (value_cmp c v) && is_le (value_cmp (greatest_below d v cs) c) then c else greatest_below d v cs

abbrev pub at_cut : CatalogData → ℕ → Value → Value
at_cut C c v = greatest_below (least_of (column C c).kind) v (cuts_on C c)

-- the row with each cell replaced by the greatest cut on its column that is not above it, else by the least value
abbrev pub at_cuts : CatalogData → Row → Row
at_cuts C r = map (λ c. at_cut C c (cell r c)) (range_with_len 0 (length C.columns))
