use Rattle.std.proofs.Common.{◌≡◌, ◌≤◌, ◌-◌, ℕ, length, get_or}
use Rattle.cs_schema.specs.declared.cells.Cells.{Cells}
use Rattle.cs_rows.specs.Survivors.{contents_of}
use Rattle.cs_rows.specs.Superprojections.{own_cells}
use Rattle.cs_rows.specs.RowSteps.{reached_from}
use Rattle.cs_rows.proofs.FoundRows.{AreAdded}
use Rattle.cs_rows.proofs.superprojection.copy_rows.Given as goal

abbrev pub invariant-loop-c : goal.invariant-loop-c
invariant-loop-c l = record {
  count : length l.columns.items ≡ length l.fn.columns.items;
  added : AreAdded (own_cells l.survivors.catalog (contents_of l.survivors) (reached_from l.fn.segment.0 l.fn.segment.1 l.fn.rows.0 (l.fn.rows.1 - l.fn.rows.0))) l.fn.columns.items l.columns.items l.c;
  later : (k : ℕ) (d : Cells) → l.c ≤ k → get_or l.columns.items k d ≡ get_or l.fn.columns.items k d;
}
