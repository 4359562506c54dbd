use Rattle.std.proofs.Common.{◌≡◌, ◌+◌, ◌*◌, min, length, ap, ◌∙◌, arith}
use Rattle.std.proofs.lemmas.Result.{IfOk-weaker}
use Rattle.cs_schema.specs.Values.{value_eq, values}
use Rattle.cs_codec.specs.Columns.{cells_at}
use Rattle.cs_codec.specs.ColumnText.{cell_bytes}
use Rattle.cs_codec.specs.RunParts.{part_text}
use Rattle.cs_rebuild.specs.SegmentEncoder.{values_in}
use Rattle.cs_rebuild.proofs.Encodings.{placed_values}
use Rattle.cs_rebuild.proofs.SegmentFiles.{can_encode_all}
use Rattle.cs_rebuild.proofs.segment_encoder.SegmentEncoder.encode_runs_of.Goals as goal

pub returns : goal.returns
returns c =
    let e = c.args.self.now in
    let j = c.args.j in
    let n = length e.numbers.now in
    let col = c.column.result.now in
    let v = values_in e j e.numbers.now in
    let held : cells_at (values col) e.numbers.now ≡ v = placed_values e j e.numbers.now c.table_column-column.result (values col) c.table_column-column.ensures.number c.column.ensures.cells (can_encode_all e j c.requires.column) in
    let low : c.min-from.result ≡ min (c.args.k * e.cut) n = omega (arith, c.min-from.ensures) in
    let high : c.min-to.result ≡ min (c.args.k * e.cut + e.cut) n = omega (arith, c.min-from.ensures, c.min-to.ensures) in
    IfOk-weaker c.write_runs.result _ _ (λ out is.
    is
    ∙ ap (λ x. part_text cell_bytes value_eq x c.min-from.result c.min-to.result) held
    ∙ ap (λ m. part_text cell_bytes value_eq v m c.min-to.result) low
    ∙ ap (λ m. part_text cell_bytes value_eq v (min (c.args.k * e.cut) n) m) high) c.write_runs.ensures
