use Rattle.std.proofs.Common.{◌≡◌, ◌<◌, ℕ, length, slice_index_or}
use Rattle.cs_schema.specs.declared.cells.Cells.{Cells}
use Rattle.cs_schema.specs.Values.{values, kind_of}
use Rattle.cs_schema.specs.CatalogData.{column}
use Rattle.cs_order.proofs.samples.walked_rows.Given as goal

-- the columns so far are as long as the first, and of the catalog's kinds
abbrev pub invariant-loop-c : goal.invariant-loop-c
invariant-loop-c l = (k : ℕ) (d : Cells) → k < l.c → (length (values (slice_index_or l.columns.items k d)) ≡ l.rows) × (kind_of (slice_index_or l.columns.items k d) ≡ (column l.catalog k).kind)
