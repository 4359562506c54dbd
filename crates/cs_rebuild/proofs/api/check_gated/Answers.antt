use Rattle.std.proofs.Common.{refl}
use Rattle.cs_rebuild.proofs.api.check_gated.Goals as goal

pub check_shared-requires-clause-held : goal.check_shared-requires-clause-held
check_shared-requires-clause-held g c κs within = (c.args.files.now, refl, refl)

pub returns-clause-clauses : goal.returns-clause-clauses
returns-clause-clauses g c = c.check_shared.ensures.clauses c.args.files.now refl
