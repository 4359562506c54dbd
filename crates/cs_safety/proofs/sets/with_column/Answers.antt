use Rattle.std.proofs.Common.{w32}
use Rattle.cs_safety.proofs.BitSets.{one_more}
use Rattle.cs_safety.proofs.sets.with_column.Goals as goal

pub returns : goal.returns
returns c = one_more w32 c.args.set c.args.c c.requires
