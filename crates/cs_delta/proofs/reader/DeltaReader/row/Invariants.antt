use Rattle.cs_delta.proofs.StoredChanges.{IsRowSoFar}
use Rattle.cs_delta.proofs.reader.DeltaReader.row.Given as goal

abbrev pub invariant-loop-j : goal.invariant-loop-j
invariant-loop-j l = IsRowSoFar l.self.catalog.now l.self.p l.bytes l.fn.cells l.cells l.rest l.j
