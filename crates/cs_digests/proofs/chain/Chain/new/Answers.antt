use Rattle.std.proofs.Common.{refl, arith}
use Rattle.sha2.specs.Sha256.{hash_after}
use Rattle.cs_digests.proofs.chain.Chain.new.Goals as goal

pub invariant_of-result-clause-within : goal.invariant_of-result-clause-within
invariant_of-result-clause-within c = omega arith

pub invariant_of-result-clause-taken : goal.invariant_of-result-clause-taken
unfolding hash_after
invariant_of-result-clause-taken c = refl
