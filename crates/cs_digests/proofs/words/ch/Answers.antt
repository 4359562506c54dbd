use Rattle.std.proofs.Common.{refl}
use Rattle.cs_digests.proofs.words.ch.Goals as goal

pub returns : goal.returns
returns c j h =
    rw (c.xor.ensures j h, c.and.ensures j h, c.and-2.ensures j h, c.not.ensures j h) refl
