use Rattle.std.proofs.Common.{sym, ap, ◌∙◌}
use Rattle.std.specs.List.{find}
use Rattle.cs_schema.specs.CatalogData.{has_join}
use Rattle.cs_rows.specs.Survivors.{contents_of}
use Rattle.cs_rows.specs.WalkByRows.{Reached}
use Rattle.cs_rows.specs.RowSteps.{Stands}
use Rattle.cs_rows.proofs.FirstLemmas.{first_holds}
use Rattle.cs_rows.proofs.LevelLemmas.{looks}
use Rattle.cs_rows.proofs.levels.ReachedRows.look.Goals as goal

pub land-requires-clause-from : goal.land-requires-clause-from
land-requires-clause-from c =
    first_holds (λ (r : Reached). has_join c.args.walk.now.survivors.now.catalog r.0 c.args.q) (Stands c.args.walk.now.survivors.now.catalog (contents_of c.args.walk.now.survivors.now)) c.args.self.now.last c.in-Some.from c.requires.stand.last
    (sym (c.in-Some.ensures ∙ ap (find (λ (r : Reached). has_join c.args.walk.now.survivors.now.catalog r.0 c.args.q)) c.last_level.ensures))

pub returns-in-Some-clause-looked : goal.returns-in-Some-clause-looked
returns-in-Some-clause-looked c =
    looks c.args.walk.now.survivors.now.catalog c.args.walk.now.loss (contents_of c.args.walk.now.survivors.now) c.args.self.now c.args.q c.is_seen.result c.is_seen.ensures c.if-is_seen.false c.in-Some.from
    (sym (c.in-Some.ensures ∙ ap (find (λ (r : Reached). has_join c.args.walk.now.survivors.now.catalog r.0 c.args.q)) c.last_level.ensures)) c.land.result c.land.ensures.leads
