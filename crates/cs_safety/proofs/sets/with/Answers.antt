use Rattle.std.proofs.Common.{w8}
use Rattle.cs_safety.proofs.BitSets.{one_more}
use Rattle.cs_safety.proofs.sets.with.Goals as goal

pub returns : goal.returns
returns c = one_more w8 c.args.set c.args.p c.requires
