use Rattle.cs_codec.proofs.PaintLemmas.{PaintsSoFar}
use Rattle.std.proofs.Common.{◌≤◌, length}
use Rattle.cs_codec.proofs.bitmap_reading.paint.Given as goal

abbrev pub invariant-loop-length : goal.invariant-loop-length
invariant-loop-length l = record {
  painted : PaintsSoFar l.number l.lengths l.length-index l.position l.ones l.fn.numbers.items l.numbers.items;
  within : l.position ≤ length l.numbers.items;
}
