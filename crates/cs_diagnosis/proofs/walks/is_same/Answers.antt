use Rattle.std.proofs.Common.{sym, ap, ◌∙◌}
use Rattle.cs_schema.proofs.Ascending.{false≢true}
use Rattle.cs_safety.specs.PlanData.{PlanData}
use Rattle.cs_diagnosis.proofs.PlansAlike.{same_numbers, same_options, numbers_same, options_same}
use Rattle.cs_diagnosis.proofs.walks.is_same.Goals as goal

pub returns-then-not-eq : goal.returns-then-not-eq
returns-then-not-eq c = (
  λ told. false≢true told,
  λ same.
      let prev = ap (λ (P : PlanData). P.prev) (c.plan.view_is ∙ same ∙ sym c.other.view_is) in
      false≢true (sym c.if-not-eq.true ∙ c.eq.ensures ∙ options_same c.as_slice.result.now c.as_slice-2.result.now (c.as_slice.ensures.value ∙ prev ∙ sym c.as_slice-2.ensures.value)),
)

pub returns : goal.returns
returns c = (
  λ told.
      let prev = same_options c.as_slice.result.now c.as_slice-2.result.now (sym c.eq.ensures ∙ c.if-not-eq.false) in
      let source = same_numbers c.as_slice-3.result.now c.as_slice-4.result.now (sym c.eq-2.ensures ∙ told) in
      let prevs = sym c.as_slice.ensures.value ∙ prev ∙ c.as_slice-2.ensures.value in
      let sources = sym c.as_slice-3.ensures.value ∙ source ∙ c.as_slice-4.ensures.value in
      let plan : PlanData = record { anchor = c.plan.inside.anchor; prev = c.plan.inside.prev.items; source = c.plan.inside.source.items } in
      sym c.plan.view_is ∙ (λ i. record { anchor = c.if-plan-other.false i; prev = prevs i; source = sources i }) ∙ c.other.view_is,
  λ same.
      let source = ap (λ (P : PlanData). P.source) (c.plan.view_is ∙ same ∙ sym c.other.view_is) in
      c.eq-2.ensures ∙ numbers_same c.as_slice-3.result.now c.as_slice-4.result.now (c.as_slice-3.ensures.value ∙ source ∙ sym c.as_slice-4.ensures.value),
)
