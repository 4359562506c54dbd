use Rattle.std.proofs.Common.{refl}
use Rattle.cs_digests.proofs.schedule.word_after.Goals as goal

pub returns : goal.returns
returns c j h = rw (c.add-3.ensures j h, c.add-2.ensures j h, c.add.ensures j h, c.small_sigma1.ensures j h, c.small_sigma0.ensures j h) refl
