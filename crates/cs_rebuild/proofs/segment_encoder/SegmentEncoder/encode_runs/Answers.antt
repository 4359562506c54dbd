use Rattle.std.proofs.Common.{◌≡◌, ◌+◌, ◌*◌, length, min, ap, sym, ◌∙◌, arith}
use Rattle.std.specs.Prelude.{slice_index}
use Rattle.std.proofs.lemmas.List.{length-map}
use Rattle.cs_schema.specs.CatalogData.{projection}
use Rattle.cs_schema.specs.Rows.{cell}
use Rattle.cs_schema.specs.Values.{value_eq}
use Rattle.cs_schema.specs.declared.kinds.Code.{Code}
use Rattle.cs_codec.specs.ColumnText.{cell_bytes}
use Rattle.cs_codec.specs.RunParts.{part_text}
use Rattle.cs_order.specs.Orders.{row_at}
use Rattle.cs_segment.specs.SegmentWriter.{joined}
use Rattle.cs_rebuild.specs.Encoding.{pieces_of}
use Rattle.cs_rebuild.specs.SegmentEncoder.{code_in, kind_in, values_in}
use Rattle.cs_rebuild.proofs.RunTexts.{AreParts, parts_whole}
use Rattle.cs_rebuild.proofs.SegmentFiles.{column_whole}
use Rattle.cs_rebuild.proofs.segment_encoder.SegmentEncoder.encode_runs.Goals as goal

pub returns-in-Ok : goal.returns-in-Ok
returns-in-Ok g c =
    let e = c.args.self.now in
    let j = c.args.j in
    let v = values_in e j e.numbers.now in
    let size : length v ≡ length e.numbers.now = length-map e.numbers.now (λ r. cell (row_at e.store.now.walked.rows r) (slice_index (projection e.store.now.catalog.now e.p).columns j)) in
    let texts = c.in-Ok.body.items in
    let parts : AreParts v e.cut (length v) 0 texts = λ i text at.
    let same : i ≡ 0 + i = omega arith in
    c.in-Ok.ensures.ok.each i text at
    ∙ ap (λ n. part_text cell_bytes value_eq v (min (i * e.cut) n) (min (i * e.cut + e.cut) n)) (sym size)
    ∙ ap (λ m. part_text cell_bytes value_eq v (min (m * e.cut) (length v)) (min (m * e.cut + e.cut) (length v))) same in
    column_whole (code_in e j) Code.Runs (kind_in e j) v (joined texts) c.requires.runs
    (parts_whole v e.cut e.chunks texts e.cut_range.0 (e.chunks_are ∙ ap (λ n. pieces_of n e.cut) (sym size)) c.in-Ok.ensures.ok.len parts)
