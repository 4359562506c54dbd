use Rattle.std.proofs.Common.{arith}
use Rattle.cs_segment.specs.SegmentFile.{base_column}
use Rattle.cs_segment.proofs.PieceColumns.{column_at, text_begun, text_more, file_made}
use Rattle.cs_segment.proofs.writing.write_segment.Goals as goal

pub loop-j-init : goal.loop-j-init
loop-j-init c = λ b h. text_begun c.args.catalog.now c.args.p c.args.s c.args.rows b c.in_ok-file.file h.rows_are c.in_ok-file.ensures

pub write_part-requires : goal.write_part-requires
write_part-requires c =
    let b = c.requires.pieces.0 in
    let k = column_at c.args.catalog.now c.args.p c.args.rows c.args.pieces.now b c.requires.pieces.1 c.loop-j.j c.index-pieces-j.result c.loop-j-test.true c.index-pieces-j.is in
    rw (c.code-code.ensures, c.column_kind-kind.ensures) (base_column b c.loop-j.j, k.0, k.1)

pub loop-j-preserved : goal.loop-j-preserved
loop-j-preserved c = λ b h.
    let k = column_at c.args.catalog.now c.args.p c.args.rows c.args.pieces.now b h c.loop-j.j c.index-pieces-j.result c.loop-j-test.true c.index-pieces-j.is in
    let made = rw (c.code-code.ensures, c.column_kind-kind.ensures) at c.in_ok-write_part.ensures in
    let wide = h.width in
    text_more c.args.catalog.now c.args.p c.args.s b c.loop-j.j c.loop-j.file c.write_part.new.file (omega (arith, c.loop-j-test.true)) (c.loop-j.invariant b h) (made (base_column b c.loop-j.j) k.0 k.1)

pub returns : goal.returns
returns c =
    file_made (λ out. out.items) c.args.catalog.now c.args.p c.args.s c.args.rows c.loop-j.j c.args.pieces.now c.finish.result c.loop-j.file c.finish.ensures (omega arith) c.loop-j.invariant
