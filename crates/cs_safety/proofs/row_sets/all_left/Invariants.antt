use Rattle.cs_safety.specs.RowSets.{AreLeft}
use Rattle.cs_safety.proofs.row_sets.all_left.Given as goal

abbrev pub invariant-loop-column : goal.invariant-loop-column
invariant-loop-column l = AreLeft l.catalog l.loss l.column l.sets
