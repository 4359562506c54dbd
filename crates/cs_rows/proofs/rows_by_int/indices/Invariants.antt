use Rattle.std.proofs.Common.{◌≡◌, take}
use Rattle.cs_rows.proofs.rows_by_int.indices.Given as goal

abbrev pub invariant-loop-row : goal.invariant-loop-row
invariant-loop-row l = l.indices.items ≡ take l.row-index l.rows
