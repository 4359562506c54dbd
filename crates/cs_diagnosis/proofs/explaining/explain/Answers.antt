use Rattle.std.proofs.Common.{◌+◌, [], refl, sym, subst}
use Rattle.cs_schema.proofs.Lists.{in_at}
use Rattle.cs_recovery.specs.Holding.{HoldsSurvivors}
use Rattle.cs_design.specs.Order.{AreAllLosses}
use Rattle.cs_design.proofs.Items.{item_at}
use Rattle.cs_diagnosis.specs.Findings.{IsExplained}
use Rattle.cs_diagnosis.specs.Tried.{IsRuledOut}
use Rattle.cs_diagnosis.proofs.SearchSteps.{IsSearched, begin, tried, ruled_out, finish}
use Rattle.cs_diagnosis.specs.Diagnoses.{rows_found}
use Rattle.cs_diagnosis.specs.Known.{IsKnown}
use Rattle.cs_diagnosis.proofs.explaining.explain.Goals as goal
use Rattle.cs_diagnosis.proofs.explaining.explain.Goals.{then-may_explain+in_ok-try_loss, else-may_explain}

pub loop-loss-init : goal.loop-loss-init
loop-loss-init g c = λ F read forced.
    let m = c.args.remains.now in
    let C = m.catalog.now in
    let held = HoldsSurvivors C F in (
      subst (λ es. IsSearched C held rows_found c.deref-loss-items.result.now 0 es c.new-2.result.items) (sym c.new.ensures.items)
          (subst (λ ts. IsSearched C held rows_found c.deref-loss-items.result.now 0 [] ts) (sym c.new-2.ensures.items) (begin C held rows_found c.deref-loss-items.result.now)),
      subst (λ ts. IsKnown C F m.first ts c.new-known.result) (sym c.new-2.ensures.items) (c.new-known.ensures C F m.first),
    )

pub loop-loss-preserved : goal.loop-loss-preserved
loop-loss-preserved g c = λ F read forced.
    let m = c.args.remains.now in
    let C = m.catalog.now in
    let held = HoldsSurvivors C F in
    let losses = c.deref-loss-items.result.now in
    let i = c.loop-loss.loss-index in
    let found = c.loop-loss.findings.explanations.items in
    let tables = c.loop-loss.findings.tables.items in
    let L = c.loss-item.result in
    let before = c.loop-loss.invariant F read forced in
    let all = subst (AreAllLosses C c.args.at_most) (sym c.deref-loss-items.ensures.value) c.in_ok-losses.ensures in
    let at = item_at losses i L c.loop-loss-test.true c.loss-item.is in
    let loss = ((all.members L).0 (in_at losses i L at)).0 in (
      elim c.if-may_explain.branch [
        | then-may_explain+in_ok-try_loss w ↦
            let unexplained = subst (λ es. ¬ IsExplained es L) c.as_slice.ensures.value w.if-may_explain.ensures.unexplained in
            subst (λ f. IsSearched C held rows_found losses (i + 1) f.explanations.items f.tables.items) (sym w.findings-is)
            (tried C held rows_found losses i found tables before.0 L at c.args.at_most all loss w.if-may_explain.ensures.safe unexplained c.loop-loss.findings w.try_loss.new.findings refl refl (w.in_ok-try_loss.ensures F read before.1).0)
        | else-may_explain w ↦
            let ruled = subst (λ es. IsRuledOut C m.first es L) c.as_slice.ensures.value w.if-may_explain.ensures in
            subst (λ f. IsSearched C held rows_found losses (i + 1) f.explanations.items f.tables.items) (sym w.findings-is)
            (ruled_out C held rows_found losses i found tables before.0 L at m.first forced ruled)
      ],
      elim c.if-may_explain.branch [
        | then-may_explain+in_ok-try_loss w ↦
            subst (λ k. IsKnown C F m.first c.if-may_explain.findings.tables.items k) (sym w.known-is)
            (subst (λ f. IsKnown C F m.first f.tables.items w.try_loss.new.known) (sym w.findings-is) (w.in_ok-try_loss.ensures F read before.1).1)
        | else-may_explain w ↦
            subst (λ k. IsKnown C F m.first c.if-may_explain.findings.tables.items k) (sym w.known-is)
            (subst (λ f. IsKnown C F m.first f.tables.items c.loop-loss.known) (sym w.findings-is) before.1)
      ],
    )

pub returns : goal.returns
returns g c = λ F read forced.
    let C = c.args.remains.now.catalog.now in
    let all = subst (AreAllLosses C c.args.at_most) (sym c.deref-loss-items.ensures.value) c.in_ok-losses.ensures in
    finish C (HoldsSurvivors C F) rows_found c.deref-loss-items.result.now c.loop-loss.loss-index c.loop-loss.findings.explanations.items c.loop-loss.findings.tables.items (c.loop-loss.invariant F read forced).0
    c.args.at_most all c.loop-loss-test.false
