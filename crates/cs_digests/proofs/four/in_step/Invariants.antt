use Rattle.std.proofs.Common.{◌≡◌, ◌+◌}
use Rattle.sha2.specs.Sha256.{hash_after, initial_hash_256}
use Rattle.cs_digests.specs.Lanes.{lane}
use Rattle.cs_digests.proofs.four.in_step.Given as goal

-- the hash values after the blocks so far
abbrev pub invariant-loop-i : goal.invariant-loop-i
invariant-loop-i l = record {
  first : lane 0 l.state ≡ hash_after initial_hash_256 l.c0.text.now (l.c0.done + l.i);
  second : lane 1 l.state ≡ hash_after initial_hash_256 l.c1.text.now (l.c1.done + l.i);
  third : lane 2 l.state ≡ hash_after initial_hash_256 l.c2.text.now (l.c2.done + l.i);
  fourth : lane 3 l.state ≡ hash_after initial_hash_256 l.c3.text.now (l.c3.done + l.i);
}
