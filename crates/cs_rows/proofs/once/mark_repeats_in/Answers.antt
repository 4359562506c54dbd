use Rattle.std.proofs.Common.{List, ℕ, ap, map, subst, ◌∙◌}
use Rattle.std.specs.Prelude.{IfOk}
use Rattle.cs_schema.specs.declared.cells.Value.{Value}
use Rattle.cs_schema.specs.Rows.{Row, cell}
use Rattle.cs_rows.specs.Repeats.{AreRepeats}
use Rattle.cs_rows.proofs.PieceRows.{piece_rows}
use Rattle.cs_rows.proofs.once.mark_repeats_in.Goals as goal

pub returns : goal.returns
returns g c =
    let keys = c.in_ok-keys.ensures.cells ∙ ap (λ (k : ℕ). map (λ (row : Row). cell row k) (piece_rows c.args.pieces.now)) c.key_column.ensures.key in
    subst (λ (vs : List Value). IfOk c.find_repeats.result (λ marks. AreRepeats vs marks.items)) keys c.find_repeats.ensures
