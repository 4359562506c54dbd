use Rattle.std.proofs.Common.{refl}
use Rattle.cs_digests.proofs.words.small_sigma1.Goals as goal

pub returns : goal.returns
returns c j h =
    rw (c.xor-2.ensures j h, c.xor.ensures j h, c.rotate.ensures j h, c.rotate-2.ensures j h, c.right.ensures j h) refl
