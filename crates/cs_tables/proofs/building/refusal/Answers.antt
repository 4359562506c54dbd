use Rattle.cs_recovery.specs.Columns.{rows_in}
use Rattle.cs_tables.proofs.LoadLemmas.{full-refused, full-segment, twice-refused}
use Rattle.cs_tables.proofs.building.refusal.Goals as goal

pub full_range-requires-clause-projection : goal.full_range-requires-clause-projection
full_range-requires-clause-projection c =
    full-segment c.args.catalog.now (rows_in c.args.rows.now) c.in-Full.p c.in-Full.s (full-refused c.args.catalog.now (rows_in c.args.rows.now) c.in-Full.p c.in-Full.s c.args.fault c.in-Full.is c.requires.refused)

pub full_range-requires-clause-refused : goal.full_range-requires-clause-refused
full_range-requires-clause-refused c =
    full-refused c.args.catalog.now (rows_in c.args.rows.now) c.in-Full.p c.in-Full.s c.args.fault c.in-Full.is c.requires.refused

pub returns-in-Twice : goal.returns-in-Twice
returns-in-Twice c = twice-refused c.args.catalog.now c.args.rows.now c.twice.result c.twice.ensures
