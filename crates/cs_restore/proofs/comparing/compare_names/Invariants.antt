use Rattle.cs_restore.proofs.Compared.{ComparedSoFar}
use Rattle.cs_restore.proofs.comparing.compare_names.Given as goal

abbrev pub invariant-loop-name : goal.invariant-loop-name
invariant-loop-name l = ComparedSoFar l.answer l.read.files l.names l.name-index l.compared.changes.items
