use Rattle.std.proofs.Common.{◌≡◌, take}
use Rattle.cs_rows.specs.WalkByRows.{numbers_of}
use Rattle.cs_rows.proofs.column_sources.list_projections.Given as goal

abbrev pub invariant-loop-row : goal.invariant-loop-row
invariant-loop-row l = l.projections.items ≡ numbers_of (take l.row-index l.reached)
