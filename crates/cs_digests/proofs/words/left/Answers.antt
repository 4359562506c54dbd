use Rattle.cs_digests.proofs.LaneLemmas.{shifts_left}
use Rattle.cs_digests.proofs.words.left.Goals as goal

pub returns : goal.returns
returns c = shifts_left c.args.k c.requires c.args.x c.fits-x.0
