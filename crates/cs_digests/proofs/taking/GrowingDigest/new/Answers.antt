use Rattle.std.proofs.Common.{refl, arith}
use Rattle.sha2.specs.Sha256.{hash_after}
use Rattle.cs_digests.proofs.taking.GrowingDigest.new.Goals as goal

pub returns : goal.returns
unfolding hash_after
returns c m = record { within = omega arith; is = refl }
