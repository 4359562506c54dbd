use Rattle.std.specs.FinMap.{entries}
use Rattle.cs_store.specs.FileSet.{named_bytes}
use Rattle.cs_store.proofs.SaveLemmas.{PutSoFar}
use Rattle.cs_store.proofs.saving.save.Given as goal

abbrev pub invariant-loop-name : goal.invariant-loop-name
invariant-loop-name g l = PutSoFar g.K.Sink.takes g.K.Sink.fault_count (entries l.files) l.initial.sink (named_bytes l.name-iterator) l.sink
