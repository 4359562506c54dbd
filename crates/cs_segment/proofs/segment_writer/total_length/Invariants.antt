use Rattle.std.proofs.Common.{◌≡◌, ◌-◌, ◌^◌, length, min, take}
use Rattle.cs_segment.specs.SegmentWriter.{joined}
use Rattle.cs_segment.proofs.segment_writer.total_length.Given as goal

abbrev pub invariant-loop-piece : goal.invariant-loop-piece
invariant-loop-piece l = l.length ≡ min (length (joined (take l.piece-index l.pieces))) (2 ^ 64 - 1)
