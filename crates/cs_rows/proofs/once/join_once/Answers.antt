use Rattle.std.proofs.Common.{◌≡◌, All, length, sym, ap, ◌∙◌}
use Rattle.std.proofs.lemmas.List.{length-map}
use Rattle.cs_schema.specs.Rows.{Row, cell}
use Rattle.cs_rows.specs.Repeats.{unmarked}
use Rattle.cs_rows.specs.WalkedView.{WalkedData}
use Rattle.cs_rows.proofs.FoundRows.{columns_of_rows, rows_in, kinds_fit}
use Rattle.cs_rows.proofs.KeptCells.{unmarked_all}
use Rattle.cs_rows.proofs.PieceRows.{piece_rows, pieces_wide}
use Rattle.cs_rows.proofs.RepeatLemmas.{repeats_left_out}
use Rattle.cs_rows.proofs.once.join_once.Goals as goal

pub unmarked_columns-requires-clause-marks : goal.unmarked_columns-requires-clause-marks
unmarked_columns-requires-clause-marks g c κs within =
    ap length c.deref.ensures.value ∙ c.in_ok-marks.ensures.count ∙ length-map (piece_rows c.args.pieces.now) (λ (row : Row). cell row c.args.catalog.now.key)

pub from_columns-requires : goal.from_columns-requires
from_columns-requires g c =
    let columns = c.in_ok-columns.ensures in
    columns_of_rows c.args.catalog.now c.in_ok-columns.columns.items (unmarked c.deref.result.now (piece_rows c.args.pieces.now)) columns.fit columns.rows columns.rules.column_range.0

pub returns-clause-kinds : goal.returns-clause-kinds
returns-clause-kinds g c = ap (λ (w : WalkedData). w.kinds) c.from_columns.ensures ∙ kinds_fit c.args.catalog.now c.in_ok-columns.columns.items c.in_ok-columns.ensures.fit

pub returns-clause-rows : goal.returns-clause-rows
returns-clause-rows g c =
    let C = c.args.catalog.now in
    let all = piece_rows c.args.pieces.now in
    let marks = c.deref.result.now in
    let columns = c.in_ok-columns.ensures in
    let wide : All (λ (row : Row). length row ≡ length C.columns) (unmarked marks all) =
    unmarked_all (λ (row : Row). length row ≡ length C.columns) marks all (pieces_wide C c.args.pieces.now c.requires columns.wide) in
    ap (λ (w : WalkedData). w.rows) c.from_columns.ensures
    ∙ rows_in C c.in_ok-columns.columns.items (unmarked marks all) columns.fit columns.rows wide columns.rules.column_range.0
    ∙ ap (λ ms. unmarked ms all) c.deref.ensures.value
    ∙ sym (repeats_left_out C all c.in_ok-marks.marks.items c.in_ok-marks.ensures)
