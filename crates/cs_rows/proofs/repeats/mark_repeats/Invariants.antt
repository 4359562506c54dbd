use Rattle.cs_schema.specs.Values.{values}
use Rattle.cs_rows.proofs.RepeatLemmas.{Marked}
use Rattle.cs_rows.proofs.repeats.mark_repeats.Given as goal

abbrev pub invariant-loop-next : goal.invariant-loop-next
invariant-loop-next l = Marked (values l.keys) l.sorted l.marks l.next
