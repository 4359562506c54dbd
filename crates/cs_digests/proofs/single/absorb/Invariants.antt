use Rattle.std.proofs.Common.{◌≡◌, ◌*◌}
use Rattle.sha2.specs.Sha256.{hash_after}
use Rattle.cs_digests.proofs.single.absorb.Given as goal

-- the hash value after the blocks so far
abbrev pub invariant-fours : goal.invariant-fours
invariant-fours l = l.hash ≡ hash_after l.fn.hash l.bytes (4 * l.i)

abbrev pub invariant-ones : goal.invariant-ones
invariant-ones l = l.hash ≡ hash_after l.fn.hash l.bytes l.i
