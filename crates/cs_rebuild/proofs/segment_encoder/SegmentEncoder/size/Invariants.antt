use Rattle.std.proofs.Common.{◌*◌, ◌≤◌, length}
use Rattle.cs_rebuild.proofs.segment_encoder.SegmentEncoder.size.Given as goal

-- the size of the columns so far
abbrev pub invariant-loop-j : goal.invariant-loop-j
invariant-loop-j l = l.size ≤ 265 * length l.self.numbers.now * l.j
