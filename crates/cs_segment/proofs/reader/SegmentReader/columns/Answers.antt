use Rattle.std.proofs.Common.{refl}
use Rattle.cs_segment.specs.SegmentReader.{bodies_of}
use Rattle.cs_segment.proofs.BodyLists.{one_more_read}
use Rattle.cs_segment.proofs.reader.SegmentReader.columns.Goals as goal

pub loop-j-preserved : goal.loop-j-preserved
loop-j-preserved c =
    let r = c.args.self.now in
    one_more_read r.catalog.now r.p r.rows (bodies_of r) c.loop-j.columns.items _ c.in_ok-column.field-0 c.loop-j.j _ c.loop-j.invariant c.in_ok-column.ensures.found refl c.in_ok-push.ensures.items
