use Rattle.std.proofs.Common.{◌≡◌, List, sym, ap, subst, ◌∙◌, Err}
use Rattle.std.specs.Prelude.{IfOk}
use Rattle.cs_schema.specs.declared.file_name.FileName.{FileName}
use Rattle.cs_schema.specs.Lists.{IsIn}
use Rattle.cs_schema.specs.Rows.{Row, IsRow}
use Rattle.cs_store.specs.FileSet.{contents_of}
use Rattle.cs_rows.specs.Survivors.{contents_of as held_by}
use Rattle.cs_rows.specs.WalkedView.{WalkedData}
use Rattle.cs_rows.proofs.FoundRows.{kinds_fit}
use Rattle.cs_order.specs.Tables.{table_of}
use Rattle.cs_recovery.specs.BuildAnswers.{no_files, IsBuildAnswer}
use Rattle.cs_recovery.specs.Columns.{rows_in}
use Rattle.cs_recovery.specs.Expected.{written}
use Rattle.cs_recovery.proofs.ColumnRows.{rows_are}
use Rattle.cs_rebuild.specs.OnStore.{written_on}
use Rattle.cs_rebuild.specs.Steps.{AreRead, HoldsTable}
use Rattle.cs_rebuild.specs.declared.ordered_store.OrderedStore.{OrderedStore}
use Rattle.cs_rebuild.proofs.BuiltFiles.{columns_fit, columns_even, none_read, held_afresh, built_answer, build_ends}
use Rattle.cs_rebuild.proofs.Verdicts.{on_store}
use Rattle.cs_rebuild.proofs.building.build.Goals as goal

pub of_borrowed-requires : goal.of_borrowed-requires
of_borrowed-requires g c = columns_even c.args.catalog.now c.args.rows.now c.requires c.projection_count-rules.ensures.rules.column_range.0

pub orders_of-requires-clause-kinds : goal.orders_of-requires-clause-kinds
orders_of-requires-clause-kinds g c κs within = ap (λ (w : WalkedData). w.kinds) c.in-Ok.ensures ∙ kinds_fit c.args.catalog.now c.args.rows.now (columns_fit c.args.catalog.now c.args.rows.now c.requires)

pub returns-in-Err-orders_of-clause-answer : goal.returns-in-Err-orders_of-clause-answer
returns-in-Err-orders_of-clause-answer g c =
    subst (λ (l : List Row). IsBuildAnswer c.args.catalog.now l (Err c.in-Err-orders_of.fault)) (ap (λ (w : WalkedData). w.rows) c.in-Ok.ensures) c.in-Err-orders_of.ensures.err

pub store_of-store-requires-clause-kinds : goal.store_of-store-requires-clause-kinds
store_of-store-requires-clause-kinds g c = ap (λ (w : WalkedData). w.kinds) c.in-Ok.ensures ∙ kinds_fit c.args.catalog.now c.args.rows.now (columns_fit c.args.catalog.now c.args.rows.now c.requires)

pub store_of-store-requires-clause-read : goal.store_of-store-requires-clause-read
store_of-store-requires-clause-read g c =
    (no_files, subst (λ L. AreRead c.args.catalog.now no_files L c.in-Ok-new.survivors) (sym c.every_site.ensures) (none_read c.args.catalog.now c.projection_count-rules.ensures.rules c.in-Ok-new.survivors c.in-Ok-new.ensures))

pub store_of-store-requires-clause-table : goal.store_of-store-requires-clause-table
store_of-store-requires-clause-table g c =
    let C = c.args.catalog.now in
    let w = c.in-Ok.walked in
    let rows : w.rows ≡ rows_in c.args.rows.now = ap (λ (x : WalkedData). x.rows) c.in-Ok.ensures in
    let are : (row : Row) → IsIn row w.rows → IsRow C row = λ row i. rows_are C c.args.rows.now c.requires c.assert_cell_bounds.ensures row (subst (IsIn row) rows i) in
    (held_afresh C c.projection_count-rules.ensures.rules w are c.in-Ok-new.survivors c.in-Ok-orders_of.ensures.sound).table

pub of-sound-requires : goal.of-sound-requires
of-sound-requires g c =
    let C = c.args.catalog.now in
    let w = c.in-Ok.walked in
    let rows : w.rows ≡ rows_in c.args.rows.now = ap (λ (x : WalkedData). x.rows) c.in-Ok.ensures in
    let are : (row : Row) → IsIn row w.rows → IsRow C row = λ row i. rows_are C c.args.rows.now c.requires c.assert_cell_bounds.ensures row (subst (IsIn row) rows i) in
    let held = held_afresh C c.projection_count-rules.ensures.rules w are c.in-Ok-new.survivors c.in-Ok-orders_of.ensures.sound in
    let e = c.store_of-store.ensures in
    (no_files, on_store (λ D L v x. HoldsTable D no_files L v x) (sym e.catalog) (sym (e.loss ∙ c.every_site.ensures)) (sym e.survivors) (sym e.walked) held)

pub returns-clause-answer : goal.returns-clause-answer
returns-clause-answer g c =
    let C = c.args.catalog.now in
    let w = c.in-Ok.walked in
    let rows : w.rows ≡ rows_in c.args.rows.now = ap (λ (x : WalkedData). x.rows) c.in-Ok.ensures in
    let e = c.store_of-store.ensures in
    let r = c.write_files.result in
    let files = on_store (λ D L v x. IfOk r (λ out. (n : FileName) → contents_of out n ≡ written D L (held_by v) (table_of D x.rows) n)) e.catalog (e.loss ∙ c.every_site.ensures) e.survivors e.walked (subst (λ (o : OrderedStore). IfOk r (λ out. (n : FileName) → contents_of out n ≡ written_on o n)) c.of-sound.ensures c.write_files.ensures.ok) in
    subst (λ (l : List Row). IsBuildAnswer C l r) rows (built_answer C c.projection_count-rules.ensures.rules w.rows c.in-Ok-new.survivors c.in-Ok-orders_of.ensures.sound r files c.write_files.ensures.err)

pub returns-clause-clauses : goal.returns-clause-clauses
returns-clause-clauses g c = build_ends c.args.catalog.now c.projection_count-rules.ensures.rules (rows_in c.args.rows.now) (rows_are c.args.catalog.now c.args.rows.now c.requires c.assert_cell_bounds.ensures) _ (returns-clause-answer g c)
