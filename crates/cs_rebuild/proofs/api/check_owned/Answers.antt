use Rattle.cs_rebuild.proofs.api.check_owned.Goals as goal

pub returns-in-Ok-clause-clauses : goal.returns-in-Ok-clause-clauses
returns-in-Ok-clause-clauses g c = c.check_shared.ensures.clauses c.args.files c.in-Ok.ensures.first
