use Rattle.std.proofs.Common.{◌≡◌, ℕ, subst, sym, ap, ◌∙◌, eq-eqb}
use Rattle.cs_schema.specs.Losses.{alive}
use Rattle.cs_safety.specs.Paths.{Path}
use Rattle.cs_safety.specs.PlanData.{PlanData}
use Rattle.cs_safety.proofs.plans.Plan.reached.Goals as goal

pub returns-then-p-from-clause-reached : goal.returns-then-p-from-clause-reached
returns-then-p-from-clause-reached c C L p =
    let anchor_of : PlanData → ℕ = λ P. P.anchor in
    let e : c.args.p ≡ c.args.self.now.anchor = c.if-p-from.true ∙ c.from.ensures ∙ ap anchor_of c.self.view_is in
    (λ h. (0, subst (λ q. Path C (alive C L) c.args.self.now.anchor q 0) (sym e) Path.start), λ h. eq-eqb c.args.p c.from.result c.if-p-from.true)
