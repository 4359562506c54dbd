use Rattle.std.proofs.Common.{ap, ◌∙◌, List, map}
use Rattle.cs_schema.specs.Rows.{Row}
use Rattle.cs_rows.specs.Survivors.{contents_of}
use Rattle.cs_rows.specs.TableView.{over}
use Rattle.cs_rows.specs.Walk.{projection_rows, walked_row}
use Rattle.cs_rows.specs.WalkedView.{WalkedData}
use Rattle.cs_rows.proofs.FoundRows.{columns_of_rows, rows_in, kinds_fit}
use Rattle.cs_rows.proofs.FollowLemmas.{walked_wide}
use Rattle.cs_rebuild.proofs.gathering.gather_table.Goals as goal

pub of_columns-requires : goal.of_columns-requires
of_columns-requires g c =
    let C = c.args.walk.now.survivors.now.catalog in
    let S = contents_of c.args.walk.now.survivors.now in
    let P = c.args.walk.now.plan.now in
    let rows : List Row = map (walked_row C S P) (projection_rows C S P.anchor) in
    columns_of_rows C (over c.in_ok-columns.columns.items c.in_ok-borrowed.borrowed) rows c.in_ok-columns.ensures.fit c.in_ok-columns.ensures.rows c.in_ok-columns.ensures.rules.column_range.0

pub returns-clause-kinds : goal.returns-clause-kinds
returns-clause-kinds g c = ap (λ (w : WalkedData). w.kinds) c.of_columns.ensures ∙ kinds_fit c.args.walk.now.survivors.now.catalog (over c.in_ok-columns.columns.items c.in_ok-borrowed.borrowed) c.in_ok-columns.ensures.fit

pub returns-clause-rows : goal.returns-clause-rows
returns-clause-rows g c =
    let C = c.args.walk.now.survivors.now.catalog in
    let S = contents_of c.args.walk.now.survivors.now in
    let P = c.args.walk.now.plan.now in
    let rows : List Row = map (walked_row C S P) (projection_rows C S P.anchor) in
    let columns = c.in_ok-columns.ensures in
    ap (λ (w : WalkedData). w.rows) c.of_columns.ensures
    ∙ rows_in C (over c.in_ok-columns.columns.items c.in_ok-borrowed.borrowed) rows columns.fit columns.rows (walked_wide C S P (projection_rows C S P.anchor)) columns.rules.column_range.0
