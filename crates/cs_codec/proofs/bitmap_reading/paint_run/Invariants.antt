use Rattle.cs_codec.specs.Painting.{PaintsRun}
use Rattle.cs_codec.proofs.bitmap_reading.paint_run.Given as goal

abbrev pub invariant-loop-k : goal.invariant-loop-k
invariant-loop-k l = PaintsRun l.number l.start l.k l.fn.numbers.items l.numbers.items
