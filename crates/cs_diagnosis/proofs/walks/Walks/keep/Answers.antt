use Rattle.std.proofs.Common.{ap, sym, inl, ◌∙◌}
use Rattle.cs_schema.specs.CatalogData.{CatalogData}
use Rattle.cs_diagnosis.specs.Walks.{HasPlan}
use Rattle.cs_diagnosis.specs.declared.walks.WalkedPlan.{WalkedPlan}
use Rattle.cs_diagnosis.proofs.WalkedPlans.{plan_outcome, one_plan_more}
use Rattle.cs_diagnosis.proofs.walks.Walks.keep.Goals as goal

pub returns-in_ok-push-in-Some : goal.returns-in_ok-push-in-Some
returns-in_ok-push-in-Some c =
    let C = c.args.catalog.now in
    let whole = ap (λ (D : CatalogData). D.safety) (sym c.catalog.view_is) ∙ c.in-Whole.is in
    let has : HasPlan C c.args.loss c.in-Some.plan = (whole, c.in-Some.ensures.some) in
    let kept : WalkedPlan = record { plan = c.in-Some.plan; conflicts = c.args.conflicts } in
    record {
      kept = inl (c.in-Some.plan, has, c.in_ok-push-in-Some.ensures.items);
      walks = λ F first outcome walks.
          one_plan_more C F first c.args.self.now (record { plans = c.push.new.self }) kept c.in_ok-push-in-Some.ensures.items walks (plan_outcome C F first c.args.loss c.in-Some.plan has c.args.conflicts outcome);
    }
