use Rattle.cs_rows.proofs.NearInts.{Noted}
use Rattle.cs_rows.proofs.near_ints.mark_near_ints.Given as goal

abbrev pub invariant-loop-row : goal.invariant-loop-row
invariant-loop-row l = Noted l.ints l.least l.count l.seen.items l.marks l.row
