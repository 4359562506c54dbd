use Rattle.std.proofs.Common.{◌≡◌, false, map, sym, ap, subst, ◌∙◌}
use Rattle.cs_schema.specs.Lists.{IsIn}
use Rattle.cs_schema.specs.Values.{values}
use Rattle.cs_store.specs.FileSet.{contents_of}
use Rattle.cs_recovery.specs.Columns.{rows_in}
use Rattle.cs_recovery.specs.Holding.{Holds}
use Rattle.cs_recovery.proofs.ColumnRows.{are_the_table}
use Rattle.cs_csv.specs.Closed.{Closed}
use Rattle.cs_csv.specs.Reading.{text_records}
use Rattle.cs_csv.specs.Writing.{names_record, row_count, rows_records, table_records}
use Rattle.cs_csv.proofs.TripLemmas.{cells-back, parts-same, table-back}
use Rattle.cs_tables.proofs.LoadedTableLemmas.{even-columns}
use Rattle.cs_tables.proofs.CatalogNames.{catalog_names}
use Rattle.cs_tables.proofs.RelayoutDumpLemmas.{cells-fit, no_mark, rows-same}
use Rattle.cs_tables.proofs.RelayoutTableLemmas.{one_table}
use Rattle.cs_tables.proofs.relayout_laws.dumps_load_back.Goals as goal

pub returns : goal.returns
returns c = λ C cat F L T text loaded held dumped back.
    let first : T ≡ dumped.table = dumped.only.1 T held in
    let U = dumped.table in
    let columns = dumped.columns in
    let is = dumped.only.0.table in
    let fit = cells-fit C cat U is columns dumped.are in
    let records : text_records text ≡ (table_records C.columns columns, false) = ap text_records dumped.is ∙ table-back C.columns columns (no_mark C cat) fit in
    let read = back.reads in
    let parts = parts-same read.header (names_record C.columns) read.rows (rows_records columns (row_count columns)) (sym read.text.0 ∙ ap (λ (t : Closed). t.0) records) in
    let cells : map values back.cells ≡ map values columns = cells-back C.columns columns (catalog_names C cat) (even-columns C U columns dumped.are) fit back.cells (rw (parts.0, parts.1) at read.holds) in
    let rows : rows_in back.cells ≡ U = rows-same back.cells columns cells ∙ (are_the_table C cat U is columns dumped.are).rows in
    let kept = back.holds in
    let same : kept.table ≡ U = one_table C kept.table U kept.is_table is (λ row i. subst (IsIn row) rows (kept.within row i)) (λ row i. kept.all row (subst (IsIn row) (sym rows) i)) in
    subst (Holds C (contents_of loaded.files)) (same ∙ sym first) kept.holds
