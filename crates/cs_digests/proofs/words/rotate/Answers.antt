use Rattle.std.specs.Prelude.{slice_index}
use Rattle.cs_digests.proofs.LaneLemmas.{rotates}
use Rattle.cs_digests.proofs.words.rotate.Goals as goal

pub returns : goal.returns
returns c j h =
    rw (c.or.ensures j h, c.right.ensures j h, c.left.ensures j h) (rotates (slice_index c.args.x j) c.args.k c.requires.0 c.requires.1)
