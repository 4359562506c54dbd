use Rattle.std.proofs.Common.{◌≡◌, All, ℕ, List, length, map, sym, ap, subst, ◌∙◌}
use Rattle.std.proofs.lemmas.List.{length-map}
use Rattle.cs_schema.specs.declared.cells.Value.{Value}
use Rattle.cs_schema.specs.CatalogData.{ColumnData}
use Rattle.cs_schema.specs.Rows.{Row, cell}
use Rattle.cs_rows.specs.Repeats.{AreRepeats, unmarked}
use Rattle.cs_rows.specs.WalkedView.{WalkedData}
use Rattle.cs_rows.proofs.FoundRows.{columns_of_rows, rows_in, kinds_fit}
use Rattle.cs_rows.proofs.KeptCells.{unmarked_all}
use Rattle.cs_rows.proofs.RepeatLemmas.{repeats_left_out}
use Rattle.cs_rows.proofs.once.first_rows.Goals as goal

pub columns_left-requires-clause-marks : goal.columns_left-requires-clause-marks
columns_left-requires-clause-marks c =
    ap length c.as_slice.ensures.value ∙ c.in_ok-marks.ensures.count ∙ ap length c.column-keys.ensures.cells ∙ length-map c.args.walked.now.rows (λ (row : Row). cell row c.key_column.result)

pub from_columns-requires : goal.from_columns-requires
from_columns-requires c =
    let columns = c.in_ok-columns.ensures in
    columns_of_rows c.args.catalog.now c.in_ok-columns.columns.items (unmarked c.as_slice.result.now c.args.walked.now.rows) columns.fit columns.rows columns.rules.column_range.0

pub returns-clause-kinds : goal.returns-clause-kinds
returns-clause-kinds c = ap (λ (w : WalkedData). w.kinds) c.from_columns.ensures ∙ kinds_fit c.args.catalog.now c.in_ok-columns.columns.items c.in_ok-columns.ensures.fit ∙ sym c.requires

pub returns-clause-rows : goal.returns-clause-rows
returns-clause-rows c =
    let C = c.args.catalog.now in
    let all = c.args.walked.now.rows in
    let marks = c.as_slice.result.now in
    let columns = c.in_ok-columns.ensures in
    let wide : All (λ (row : Row). length row ≡ length C.columns) all = λ k d l. columns.wide k d l ∙ ap length c.requires ∙ length-map C.columns (λ (x : ColumnData). x.kind) in
    let repeats : AreRepeats (map (λ (row : Row). cell row C.key) all) c.in_ok-marks.marks.items =
    subst (λ (vs : List Value). AreRepeats vs c.in_ok-marks.marks.items) (c.column-keys.ensures.cells ∙ ap (λ (k : ℕ). map (λ (row : Row). cell row k) all) c.key_column.ensures.key) c.in_ok-marks.ensures in
    ap (λ (w : WalkedData). w.rows) c.from_columns.ensures
    ∙ rows_in C c.in_ok-columns.columns.items (unmarked marks all) columns.fit columns.rows (unmarked_all (λ (row : Row). length row ≡ length C.columns) marks all wide) columns.rules.column_range.0
    ∙ ap (λ ms. unmarked ms all) c.as_slice.ensures.value
    ∙ sym (repeats_left_out C all c.in_ok-marks.marks.items repeats)
