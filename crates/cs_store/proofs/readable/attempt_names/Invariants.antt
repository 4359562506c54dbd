use Rattle.cs_store.proofs.ReadableLemmas.{AttemptedSoFar}
use Rattle.cs_store.proofs.readable.attempt_names.Given as goal

abbrev pub invariant-loop-name : goal.invariant-loop-name
invariant-loop-name g l = AttemptedSoFar g.S.Source.gives g.S.Source.refuses g.S.Source.fault_count l.names l.name-index l.initial.source l.found.files l.found.unreadable.items l.source
