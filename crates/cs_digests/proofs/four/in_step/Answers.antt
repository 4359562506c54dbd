use Rattle.std.proofs.Common.{arith}
use Rattle.cs_digests.proofs.BlockLemmas.{block_more}
use Rattle.cs_digests.proofs.four.in_step.Goals as goal

pub loop-i-preserved : goal.loop-i-preserved
loop-i-preserved c = record {
  first = block_more c.args.c0.text.now _ _ c.args.c0.done c.loop-i.i c.loop-i.invariant.first (c.compress.ensures 0 (omega arith));
  second = block_more c.args.c1.text.now _ _ c.args.c1.done c.loop-i.i c.loop-i.invariant.second (c.compress.ensures 1 (omega arith));
  third = block_more c.args.c2.text.now _ _ c.args.c2.done c.loop-i.i c.loop-i.invariant.third (c.compress.ensures 2 (omega arith));
  fourth = block_more c.args.c3.text.now _ _ c.args.c3.done c.loop-i.i c.loop-i.invariant.fourth (c.compress.ensures 3 (omega arith));
}
