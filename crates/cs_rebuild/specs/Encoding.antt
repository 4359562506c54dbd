-- The pieces into which the columns of a lost segment are cut.
use Rattle.std.specs.Prelude.{ℕ, ◌+◌, ◌-◌, ◌*◌, ◌/◌, ◌<◌, List, map, length, max, take, drop, slice_index, ◌≤ℤ◌}
use Rattle.cs_codec.specs.ColumnText.{int_of}
use Rattle.cs_schema.specs.declared.cells.Value.{Value}
use Rattle.cs_schema.specs.CatalogData.{CatalogData, projection}
use Rattle.cs_schema.specs.Rows.{Row, cell, project}
use Rattle.cs_order.specs.Orders.{row_at}
use Rattle.cs_segment.specs.SegmentFile.{Base, base_of}

-- the number of pieces of a column with n rows, which is at least one
abbrev pub pieces_of : ℕ → ℕ → ℕ
pieces_of n cut = max 1 ((n + cut - 1) / cut)

-- the values of column j of a projection at the rows with these numbers
abbrev pub values_at : CatalogData → ℕ → List Row → ℕ → List ℕ → List Value
values_at C p rows j numbers = map (λ r. cell (row_at rows r) (slice_index (projection C p).columns j)) numbers

-- the numbers of the k-th piece
abbrev pub cut_at : ℕ → List ℕ → ℕ → List ℕ
cut_at cut numbers k = take cut (drop (k * cut) numbers)

-- the base of the rows with these numbers
abbrev pub base_at : CatalogData → ℕ → List Row → List ℕ → Base
base_at C p rows numbers = base_of C p (map (project C p) (map (row_at rows) numbers))

-- no int is less than its predecessor
abbrev pub Rises : List Value → Type 0
Rises v = (i : ℕ) → i + 1 < length v → int_of (cell v i) ≤ℤ int_of (cell v (i + 1))
