use Rattle.std.proofs.Common.{◌≡◌, take}
use Rattle.cs_recovery.specs.Columns.{rows_in}
use Rattle.cs_tables.specs.Cutting.{values_in}
use Rattle.cs_tables.proofs.cutting.values_in_range.Given as goal

abbrev pub invariant-loop-row : goal.invariant-loop-row
invariant-loop-row l = l.found.items ≡ values_in l.catalog l.p l.s (take l.row (rows_in l.rows))
