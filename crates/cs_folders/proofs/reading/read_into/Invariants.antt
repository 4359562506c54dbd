use Rattle.cs_folders.proofs.ReadingLemmas.{ReadSoFar}
use Rattle.cs_folders.proofs.reading.read_into.Given as goal

abbrev pub invariant-loop : goal.invariant-loop
invariant-loop g l = ReadSoFar (g.F.Read.remaining l.initial.file) (g.F.Read.remaining l.file) l.limit l.bytes.items
