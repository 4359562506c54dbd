use Rattle.cs_tables.proofs.LoadLemmas.{rows-refused, text-refused}
use Rattle.cs_tables.proofs.LoadedTableLemmas.{table-columns}
use Rattle.cs_tables.proofs.loading.load.Goals as goal

pub returns-in-Err : goal.returns-in-Err
returns-in-Err g c = text-refused c.args.catalog.now (g.I.Read.remaining c.args.input) c.in-Err.fault c.text_fault.result (c.is_safe.ensures.yes c.if-not-is_safe.false) c.in-Err.ensures.err c.text_fault.ensures

pub build_rows-requires-clause-columns : goal.build_rows-requires-clause-columns
build_rows-requires-clause-columns g c =
    let read = c.in-Ok.ensures.ok in
    rw c.as_slice.ensures.value (λ κs l. table-columns c.args.catalog.now read.0 read.1 c.in-Ok.cells.items read.2)

pub returns-in-Ok-build_rows : goal.returns-in-Ok-build_rows
returns-in-Ok-build_rows g c =
    let read = c.in-Ok.ensures.ok in
    record {
      safe = c.is_safe.ensures.yes c.if-not-is_safe.false;
      cells = c.in-Ok.cells.items;
      reads = record { header = read.0; rows = read.1; holds = read.2; text = read.3 };
      holds = rw c.as_slice.ensures.value at c.in-Ok-build_rows.ensures;
      count = rw c.as_slice-in-Ok-build_rows.ensures.value at c.count_rows.ensures;
    }

pub returns : goal.returns
returns g c =
    let read = c.in-Ok.ensures.ok in
    rows-refused c.args.catalog.now (g.I.Read.remaining c.args.input) c.in-Ok.cells.items c.in-Err-build_rows.fault (c.is_safe.ensures.yes c.if-not-is_safe.false)
    (record { header = read.0; rows = read.1; holds = read.2; text = read.3 }) (rw c.as_slice.ensures.value at c.in-Err-build_rows.ensures)
