use Rattle.cs_recovery.specs.Columns.{rows_in}
use Rattle.cs_tables.proofs.LoadLemmas.{built}
use Rattle.cs_tables.proofs.building.build_rows.Goals as goal

pub returns-in-Ok : goal.returns-in-Ok
returns-in-Ok g c = built c.args.catalog.now (rows_in c.args.rows.now) c.in-Ok.files c.in-Ok.ensures.clauses

pub refusal-requires-clause-refused : goal.refusal-requires-clause-refused
refusal-requires-clause-refused g c = c.in-Err.ensures.answer

pub returns-in-Err : goal.returns-in-Err
returns-in-Err g c = c.refusal.ensures
