use Rattle.std.proofs.Common.{refl}
use Rattle.cs_rebuild.proofs.api.rebuild_gated.Goals as goal

pub rebuild_shared-requires-clause-held : goal.rebuild_shared-requires-clause-held
rebuild_shared-requires-clause-held g c κs within = (c.args.files.now, refl, refl)

pub returns-clause-clauses : goal.returns-clause-clauses
returns-clause-clauses g c = c.rebuild_shared.ensures.clauses c.args.files.now refl
