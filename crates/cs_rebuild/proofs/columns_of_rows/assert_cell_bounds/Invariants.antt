use Rattle.std.proofs.Common.{ℕ, ◌<◌, get_or}
use Rattle.cs_schema.specs.declared.cells.Cells.{Cells}
use Rattle.cs_rebuild.specs.Building.{IsOneKind}
use Rattle.cs_rebuild.proofs.columns_of_rows.assert_cell_bounds.Given as goal

-- the cells of the columns so far are of their kinds
abbrev pub invariant-loop-column : goal.invariant-loop-column
invariant-loop-column l = (k : ℕ) (d : Cells) → k < l.column-index → IsOneKind (get_or l.rows k d)
