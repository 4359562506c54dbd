use Rattle.cs_digests.proofs.LaneLemmas.{shifts_right}
use Rattle.cs_digests.proofs.words.right.Goals as goal

pub returns : goal.returns
returns c = shifts_right c.args.k c.requires c.args.x c.fits-x.0
