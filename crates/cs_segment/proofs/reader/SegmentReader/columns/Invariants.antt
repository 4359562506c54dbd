use Rattle.cs_segment.specs.Bodies.{AreFirstIn}
use Rattle.cs_segment.specs.SegmentReader.{bodies_of}
use Rattle.cs_segment.proofs.reader.SegmentReader.columns.Given as goal

abbrev pub invariant-loop-j : goal.invariant-loop-j
invariant-loop-j l = AreFirstIn l.self.catalog.now l.self.p l.self.rows (bodies_of l.self) l.j l.columns.items
