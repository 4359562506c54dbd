use Rattle.std.proofs.Common.{arith}
use Rattle.cs_digests.proofs.single.compress_one.Goals as goal

pub returns : goal.returns
returns c = c.compress_keyed.ensures c.args.block.now (c.make_keyed.ensures 0 (omega arith))
