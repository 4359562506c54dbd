use Rattle.std.proofs.Common.{◌≡◌}
use Rattle.cs_segment.specs.SegmentFile.{Base}
use Rattle.cs_segment.specs.Parts.{text_before}
use Rattle.cs_segment.specs.SegmentPieces.{ArePiecesOf}
use Rattle.cs_segment.proofs.writing.write_segment.Given as goal

abbrev pub invariant-loop-j : goal.invariant-loop-j
invariant-loop-j l = (b : Base) → ArePiecesOf l.catalog l.p l.rows l.pieces b → l.file ≡ text_before l.catalog l.p l.s b l.j
