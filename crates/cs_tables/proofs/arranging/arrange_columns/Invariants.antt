use Rattle.cs_tables.proofs.ArrangeLemmas.{AreArrangedBefore}
use Rattle.cs_tables.proofs.arranging.arrange_columns.Given as goal

abbrev pub invariant-loop-c : goal.invariant-loop-c
invariant-loop-c l = AreArrangedBefore l.old l.new l.fn.columns.items l.columns.items l.arranged.items l.c
