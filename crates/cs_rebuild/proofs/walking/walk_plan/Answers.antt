use Rattle.std.proofs.Common.{◌≡◌, ◌<◌, ◌^◌, ap, length, subst, sym, ◌∙◌, Ok}
use Rattle.std.specs.Prelude.{IfOk, IfErr}
use Rattle.cs_schema.specs.CatalogData.{CatalogData}
use Rattle.cs_safety.specs.PlanData.{PlanData}
use Rattle.cs_rows.specs.Survivors.{SurvivorsData, contents_of}
use Rattle.cs_rows.specs.Walk.{projection_rows, walked}
use Rattle.cs_rows.specs.declared.plan_walk.PlanWalk.{PlanWalk}
use Rattle.cs_rebuild.specs.Walking.{IsWalkRefusal}
use Rattle.cs_rebuild.proofs.walking.walk_plan.Goals as goal

-- what holds of a walk's survivors and plan holds of those that it was made with
there : (X : CatalogData → SurvivorsData → PlanData → Type 0) (w : PlanWalk) (C : CatalogData) (S : SurvivorsData) (P : PlanData) → S.catalog ≡ C → w.survivors.now ≡ S → w.plan.now ≡ P → X w.survivors.now.catalog w.survivors.now w.plan.now → X C S P
there X w C S P same held planned h =
    subst (λ D. X D S P) (ap (λ (T : SurvivorsData). T.catalog) held ∙ same)
    (subst (λ T. X w.survivors.now.catalog T P) held
    (subst (λ Q. X w.survivors.now.catalog w.survivors.now Q) planned h))

back : (X : CatalogData → SurvivorsData → PlanData → Type 0) (w : PlanWalk) (C : CatalogData) (S : SurvivorsData) (P : PlanData) → S.catalog ≡ C → w.survivors.now ≡ S → w.plan.now ≡ P → X C S P → X w.survivors.now.catalog w.survivors.now w.plan.now
back X w C S P same held planned h =
    subst (λ Q. X w.survivors.now.catalog w.survivors.now Q) (sym planned)
    (subst (λ T. X w.survivors.now.catalog T P) (sym held)
    (subst (λ D. X D S P) (sym (ap (λ (T : SurvivorsData). T.catalog) held ∙ same)) h))

pub walk_planned-requires-clause-few : goal.walk_planned-requires-clause-few
walk_planned-requires-clause-few g c κs within =
    back (λ C S P. length (projection_rows C (contents_of S) P.anchor) < 2 ^ 32) c.in-Ok.walk c.args.catalog.now c.args.survivors.now c.args.plan.now c.requires.same c.in-Ok.ensures.survivors c.in-Ok.ensures.plan c.requires.few

pub returns-in-Ok-clause-rows : goal.returns-in-Ok-clause-rows
returns-in-Ok-clause-rows g c =
    there (λ C S P. IfOk c.walk_planned.result (λ rows. walked C (contents_of S) P ≡ Ok rows.rows)) c.in-Ok.walk c.args.catalog.now c.args.survivors.now c.args.plan.now c.requires.same c.in-Ok.ensures.survivors c.in-Ok.ensures.plan c.walk_planned.ensures.rows

pub returns-in-Ok-clause-err : goal.returns-in-Ok-clause-err
returns-in-Ok-clause-err g c =
    there (λ C S P. IfErr c.walk_planned.result (IsWalkRefusal (walked C (contents_of S) P))) c.in-Ok.walk c.args.catalog.now c.args.survivors.now c.args.plan.now c.requires.same c.in-Ok.ensures.survivors c.in-Ok.ensures.plan c.walk_planned.ensures.err
