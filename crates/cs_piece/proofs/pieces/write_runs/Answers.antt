use Rattle.std.proofs.Common.{ap, sym, ◌∙◌}
use Rattle.std.specs.Prelude.{nat_eq}
use Rattle.std.specs.Ordering.{nat_cmp, int_eq, int_cmp}
use Rattle.std.specs.Cmp.Lexicographic.{pointwise, slice_cmp}
use Rattle.std.proofs.lemmas.Result.{IfOk-weaker}
use Rattle.cs_schema.specs.declared.cells.Value.{Value}
use Rattle.cs_schema.specs.Values.{value_eq, values}
use Rattle.cs_schema.proofs.Blocks.{texts_at_mapped}
use Rattle.cs_codec.specs.Cells.{int_cell, text_cell}
use Rattle.cs_codec.specs.Columns.{cells_at}
use Rattle.cs_codec.specs.ColumnText.{cell_bytes}
use Rattle.cs_codec.specs.RunParts.{part_text}
use Rattle.cs_codec.specs.TextMaps.{ints_are_values, part_of_values, texts_are_values}
use Rattle.cs_piece.proofs.pieces.write_runs.Goals as goal

pub returns-in-Ints : goal.returns-in-Ints
returns-in-Ints c =
    let ints = c.in-Ints.ints.items in
    let places = c.args.places.now in
    let same = ap (λ (cells : _). cells_at (values cells) places) c.in-Ints.is ∙ sym (texts_at_mapped Value.Int ints places) in
    IfOk-weaker c.write_part.result _ _ (λ out e. e ∙ part_of_values Value.Int int_cell int_eq int_cmp ints_are_values (cells_at ints places) c.args.from c.args.to ∙ ap (λ v. part_text cell_bytes value_eq v c.args.from c.args.to) (sym same)) c.write_part.ensures

pub returns-in-Texts : goal.returns-in-Texts
returns-in-Texts c =
    let texts = c.in-Texts.texts in
    let places = c.args.places.now in
    let same = ap (λ (cells : _). cells_at (values cells) places) c.in-Texts.is ∙ sym (texts_at_mapped Value.Text texts places) in
    IfOk-weaker c.write_part-in-Texts.result _ _ (λ out e. e ∙ part_of_values Value.Text text_cell (pointwise nat_eq) (slice_cmp nat_cmp) texts_are_values (cells_at texts places) c.args.from c.args.to ∙ ap (λ v. part_text cell_bytes value_eq v c.args.from c.args.to) (sym same)) c.write_part-in-Texts.ensures
