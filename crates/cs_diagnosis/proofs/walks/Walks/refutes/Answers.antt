use Rattle.std.proofs.Common.{ap, sym, subst, ◌∙◌}
use Rattle.std.specs.Prelude.{IsTrue}
use Rattle.cs_schema.specs.CatalogData.{CatalogData}
use Rattle.cs_safety.specs.PlanData.{IsPlan}
use Rattle.cs_safety.proofs.OnePlan.{one_plan}
use Rattle.cs_diagnosis.specs.Walks.{IsRefuted}
use Rattle.cs_diagnosis.proofs.WalkedPlans.{refuted}
use Rattle.cs_diagnosis.proofs.walks.Walks.refutes.Goals as goal

pub returns-in-Some : goal.returns-in-Some
returns-in-Some c =
    let C = c.args.catalog.now in
    let L = c.args.loss in
    let whole = ap (λ (D : CatalogData). D.safety) (sym c.catalog.view_is) ∙ c.in-Whole.is in
    let to : IsTrue c.refutes_plan.result → IsRefuted C L c.args.self.now = λ told.
    let found = c.refutes_plan.ensures.0 told in
    record { walked = found.0; kept = found.1; plan = (whole, subst (IsPlan C L) (sym found.2) c.in-Some.ensures.some); missed = found.3 } in
    record {
      refuted = (to, λ r. c.refutes_plan.ensures.1 (r.walked, r.kept, one_plan C L r.walked.plan c.in-Some.plan r.plan.1 c.in-Some.ensures.some, r.missed));
      none_held = λ told F first walks around safe. refuted C F first L c.args.self.now walks around safe (to told);
    }
