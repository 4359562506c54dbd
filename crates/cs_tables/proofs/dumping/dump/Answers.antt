use Rattle.std.proofs.Common.{refl}
use Rattle.cs_csv.specs.Writing.{table_text}
use Rattle.cs_tables.proofs.LoadedTableLemmas.{even-columns}
use Rattle.cs_tables.proofs.dumping.dump.Goals as goal

pub write_rows-requires : goal.write_rows-requires
write_rows-requires g c =
    let told = c.in-Ok.ensures.clauses.exact.2 in
    rw c.as_slice.ensures.value (even-columns c.args.catalog.now told.0 c.in-Ok.columns.items told.2)

pub returns-in-Err : goal.returns-in-Err
returns-in-Err g c = c.in-Err.ensures.answer

pub returns-in-Ok-write_rows : goal.returns-in-Ok-write_rows
returns-in-Ok-write_rows g c =
    let told = c.in-Ok.ensures.clauses.exact.2 in
    let columns = c.in-Ok.columns.items in (
      table_text c.args.catalog.now.columns columns,
      record { table = told.0; only = told.1; columns = columns; are = told.2; is = refl },
      rw c.as_slice.ensures.value at c.in-Ok-write_rows.ensures.bytes,
    )

pub returns : goal.returns
returns g c = c.in-Err-write_rows.ensures.fails
