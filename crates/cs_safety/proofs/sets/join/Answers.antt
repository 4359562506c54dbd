use Rattle.cs_safety.proofs.BitSets.{joined}
use Rattle.cs_safety.proofs.sets.join.Goals as goal

pub returns : goal.returns
returns c = joined c.args.a c.args.b
