use Rattle.cs_schema.specs.Values.{values}
use Rattle.cs_tables.proofs.RepeatLemmas.{AreSeen}
use Rattle.cs_tables.proofs.repeats.first_repeat.Given as goal

abbrev pub invariant-loop-again : goal.invariant-loop-again
invariant-loop-again l = AreSeen (values l.cells) l.again l.seen
