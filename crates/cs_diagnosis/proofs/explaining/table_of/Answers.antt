use Rattle.cs_recovery.proofs.ColumnRows.{are_the_table}
use Rattle.cs_rebuild.proofs.BuiltFiles.{columns_even}
use Rattle.cs_rebuild.specs.OnStore.{table_on}
use Rattle.cs_diagnosis.proofs.explaining.table_of.Goals as goal

pub invariant_of-result : goal.invariant_of-result
invariant_of-result g c =
    let C = c.args.candidate.store.catalog.now in
    let cat = c.projection_count-rules.ensures.rules in
    record { even = columns_even C c.in-Ok.columns.items (are_the_table C cat (table_on c.args.candidate.store) c.requires c.in-Ok.columns.items c.in-Ok.ensures).fit cat.column_range.0 }

pub returns-in-Ok : goal.returns-in-Ok
returns-in-Ok g c =
    let C = c.args.candidate.store.catalog.now in
    (are_the_table C c.projection_count-rules.ensures.rules (table_on c.args.candidate.store) c.requires c.in-Ok.columns.items c.in-Ok.ensures).rows
