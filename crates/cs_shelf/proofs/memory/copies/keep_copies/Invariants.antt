use Rattle.cs_shelf.proofs.Copies.{CopiedSoFar}
use Rattle.cs_shelf.proofs.memory.copies.keep_copies.Given as goal

abbrev pub invariant-loop-name : goal.invariant-loop-name
invariant-loop-name l = CopiedSoFar l.names l.files l.initial.kept l.name-index l.kept
