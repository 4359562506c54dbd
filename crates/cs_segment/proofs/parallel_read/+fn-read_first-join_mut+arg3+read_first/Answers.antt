use Rattle.std.proofs.Common.{◌≡◌, ◌+◌, ◌-◌, arith}
use Rattle.cs_segment.specs.SegmentReader.{bodies_of}
use Rattle.cs_segment.proofs.BodyLists.{one_more_read}
use Rattle.cs_segment.proofs.parallel_read.+fn-read_first-join_mut+arg3+read_first.Goals as goal

pub returns : goal.returns
returns g t c =
    let r = c.args.reader.now in
    let last = c.args.count - 1 in
    let cells = rw c.in_ok-cells.was at c.join_mut-cells.ensures.0.met.1.found in
    let before = rw c.in_ok-columns.was at c.join_mut-cells.ensures.1.met.1.found in
    let whole : last + 1 ≡ c.args.count = omega (arith, c.if-count-lt2.false) in
    record {
      found = one_more_read r.catalog.now r.p r.rows (bodies_of r) c.in_ok-columns.columns.items _ c.in_ok-cells.field-0 last c.args.count before cells whole c.in_ok-push.ensures.items;
      refused = λ e. absurd cc;
    }
