use Rattle.std.proofs.Common.{◌≡◌, ◌≤◌, ℕ, length, get_or}
use Rattle.cs_schema.specs.declared.cells.Cells.{Cells}
use Rattle.cs_rows.specs.Survivors.{contents_of}
use Rattle.cs_rows.specs.WalkByRows.{found_row}
use Rattle.cs_rows.specs.RowSteps.{RowPushed, through}
use Rattle.cs_rows.proofs.by_rows.push_row.Given as goal

abbrev pub invariant-loop-c : goal.invariant-loop-c
invariant-loop-c l = (length l.columns.items ≡ length l.fn.columns.items) × RowPushed (found_row l.survivors.catalog (contents_of l.survivors) (through l.reached)) l.fn.columns.items l.columns.items l.c × ((k : ℕ) (d : Cells) → l.c ≤ k → get_or l.columns.items k d ≡ get_or l.fn.columns.items k d)
