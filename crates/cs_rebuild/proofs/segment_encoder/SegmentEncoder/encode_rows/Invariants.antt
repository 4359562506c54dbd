use Rattle.std.proofs.Common.{◌*◌, take}
use Rattle.cs_rebuild.specs.SegmentEncoder.{IsPieceAt}
use Rattle.cs_rebuild.proofs.segment_encoder.SegmentEncoder.encode_rows.Given as goal

abbrev pub invariant-loop-k : goal.invariant-loop-k
invariant-loop-k l = IsPieceAt l.self l.j (take (l.k * l.few) l.numbers) l.column
