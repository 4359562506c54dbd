use Rattle.std.proofs.Common.{◌≡◌, replicate, false}
use Rattle.cs_rows.proofs.marks.no_marks.Given as goal

abbrev pub invariant-loop-row : goal.invariant-loop-row
invariant-loop-row l = l.marks.items ≡ replicate l._row false
