use Rattle.cs_rebuild.specs.SegmentEncoder.{code_in, kind_in, values_in}
use Rattle.cs_rebuild.proofs.SegmentFiles.{part_alone}
use Rattle.cs_rebuild.proofs.segment_encoder.SegmentEncoder.whole_body.Goals as goal

pub returns : goal.returns
returns c =
    let e = c.args.self.now in
    let j = c.args.j in
    part_alone c.new-body.result.items c.push.new.self.items c.in_ok-piece_text.field-0 c.in_ok-column.column (code_in e j) (kind_in e j) (values_in e j e.numbers.now)
    c.new-body.ensures.items c.in_ok-push.ensures.items c.in_ok-piece_text.ensures.text c.in_ok-piece_text.ensures.short c.in_ok-column.ensures
