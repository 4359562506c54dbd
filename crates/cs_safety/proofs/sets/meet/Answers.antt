use Rattle.cs_safety.proofs.BitSets.{met}
use Rattle.cs_safety.proofs.sets.meet.Goals as goal

pub returns : goal.returns
returns c = met c.args.a c.args.b
