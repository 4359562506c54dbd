use Rattle.std.proofs.Common.{◌≡◌, sym, subst, refl, ◌∙◌, Some, arith}
use Rattle.cs_schema.specs.Lists.{IsIn}
use Rattle.cs_schema.proofs.Ascending.{false≢true}
use Rattle.cs_schema.proofs.Lists.{in_at, at_in}
use Rattle.std.proofs.lemmas.Option.{slice_get_within}
use Rattle.cs_design.proofs.Items.{item_at, below_next}
use Rattle.cs_diagnosis.specs.Conflicts.{AreAllHit}
use Rattle.cs_diagnosis.specs.declared.conflicts.Conflicts.{Conflicts}
use Rattle.cs_diagnosis.specs.declared.walks.WalkedPlan.{WalkedPlan}
use Rattle.cs_diagnosis.proofs.walks.Walks.refutes_plan.Goals as goal
use Rattle.cs_diagnosis.proofs.walks.Walks.refutes_plan.Goals.{else-is_same-via-then-is_same+else-not-is_hit, else-is_same-via-else-is_same}

pub loop-walked-init : goal.loop-walked-init
loop-walked-init c n k l = absurd (omega (arith, l))

pub returns-then-not-is_hit : goal.returns-then-not-is_hit
returns-then-not-is_hit c =
    let k = c.walked-item.result in
    let at = item_at c.deref-walked-items.result.now c.loop-walked.walked-index k c.loop-walked-test.true c.walked-item.is in (
      λ told. (
        k,
        subst (IsIn k) c.deref-walked-items.ensures.value (in_at c.deref-walked-items.result.now c.loop-walked.walked-index k at),
        c.is_same.ensures.0 c.if-is_same.true,
        λ x some hit. false≢true (sym c.if-not-is_hit.true ∙ c.is_hit.ensures.1 (x, some, hit)),
      ),
      λ found. refl,
    )

pub loop-walked-preserved : goal.loop-walked-preserved
loop-walked-preserved c =
    let items = c.deref-walked-items.result.now in
    let i = c.loop-walked.walked-index in
    let k = c.walked-item.result in
    let at = item_at items i k c.loop-walked-test.true c.walked-item.is in
    below_next (λ (w : WalkedPlan). w.plan ≡ c.args.plan.now → (x : Conflicts) × (w.conflicts ≡ Some x) × AreAllHit x c.args.loss) items i k at
    (λ same. elim c.else-is_same.branch [
      | else-is_same-via-then-is_same+else-not-is_hit w ↦ w.is_hit.ensures.0 w.if-not-is_hit.false
      | else-is_same-via-else-is_same w ↦ false≢true (sym w.if-is_same.false ∙ c.is_same.ensures.1 same)
    ]) c.loop-walked.invariant

pub returns : goal.returns
returns c = (
  λ told. false≢true told,
  λ found.
      let at = at_in c.deref-walked-items.result.now found.0 (subst (IsIn found.0) (sym c.deref-walked-items.ensures.value) found.1) in
      let l = slice_get_within c.deref-walked-items.result.now at.0 found.0 at.1 in
      let held = c.loop-walked.invariant at.0 found.0 (omega (arith, l, c.loop-walked-test.false)) at.1 found.2 in
      absurd (found.3 held.0 held.1 held.2),
)
