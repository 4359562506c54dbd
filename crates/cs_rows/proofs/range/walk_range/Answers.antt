use Rattle.std.proofs.Common.{ap, subst, ◌∙◌}
use Rattle.std.specs.Prelude.{IfErr}
use Rattle.cs_schema.specs.CatalogData.{CatalogData}
use Rattle.cs_safety.specs.PlanData.{PlanData}
use Rattle.cs_rows.specs.Range.{IsWalkFault, rows_between, walked_among}
use Rattle.cs_rows.specs.Survivors.{SurvivorsData, contents_of}
use Rattle.cs_rows.proofs.range.walk_range.Goals as goal

pub returns-in-Ok-clause-fault : goal.returns-in-Ok-clause-fault
returns-in-Ok-clause-fault c =
    let walk = c.in-Ok.walk in
    let own = ap (λ (S : SurvivorsData). S.catalog) c.in-Ok.ensures.survivors ∙ c.requires.same in
    let X : CatalogData → SurvivorsData → PlanData → Type 0 = λ C S P. IfErr c.range.result (IsWalkFault (walked_among C (contents_of S) P (rows_between C (contents_of S) P c.args.from c.args.to))) in
    subst (λ C. X C c.args.survivors.now c.args.plan.now) own
    (subst (λ S. X walk.survivors.now.catalog S c.args.plan.now) c.in-Ok.ensures.survivors
    (subst (λ P. X walk.survivors.now.catalog walk.survivors.now P) c.in-Ok.ensures.plan c.range.ensures.fault))
