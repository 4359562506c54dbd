use Rattle.cs_manifest.proofs.DigestLemmas.{DigestedSoFar}
use Rattle.cs_manifest.specs.Ahead.{DigestsEach}
use Rattle.cs_parallel_io.specs.Standing.{standing}
use Rattle.cs_manifest.proofs.digesting.digest_names.Given as goal

abbrev pub invariant-loop-name : goal.invariant-loop-name
invariant-loop-name g l = DigestedSoFar (standing g.S.SharedSource.answers) (standing g.S.SharedSource.fails) l.names l.name-index l.source l.files.items l.source × DigestsEach (standing g.S.SharedSource.answers) (standing g.S.SharedSource.fails) l.source l.ahead.items
