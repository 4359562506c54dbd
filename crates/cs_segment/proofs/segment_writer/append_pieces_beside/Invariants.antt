use Rattle.std.proofs.Common.{◌≡◌, ◌++◌}
use Rattle.cs_segment.specs.SegmentWriter.{joined}
use Rattle.cs_segment.proofs.segment_writer.append_pieces_beside.Given as goal

abbrev pub invariant-loop-piece : goal.invariant-loop-piece
invariant-loop-piece g l = l.buffer ≡ l.initial.buffer ++ joined l.yielded
