use Rattle.std.proofs.Common.{sym, subst, refl, ◌∙◌}
use Rattle.std.proofs.lemmas.Result.{on_ok_weaker}
use Rattle.cs_schema.proofs.Ascending.{false≢true}
use Rattle.cs_diagnosis.specs.Tried.{IsTried}
use Rattle.cs_diagnosis.specs.Known.{IsKnown}
use Rattle.cs_diagnosis.proofs.Searched.{found_held}
use Rattle.cs_diagnosis.proofs.explaining.try_loss.Goals as goal

pub returns-in-Some : goal.returns-in-Some
returns-in-Some g c =
    let m = c.args.remains.now in
    let C = m.catalog.now in
    let tables = c.args.findings.now.tables.items in
    let at = c.in-Some.ensures in
    on_ok_weaker c.keep_known.result (λ kept F read known.
    let held = found_held C F m.first c.args.loss c.requires.within tables c.args.known.now known c.in-Some.table at.0 at.1 at.2 in (
      IsTried.known c.in-Some.table held.0 held.1 held.2 kept.0 kept.1,
      subst (λ ts. IsKnown C F m.first ts c.args.known.now) (sym kept.1) known,
    )) c.keep_known.ensures

pub returns-then-refutes : goal.returns-then-refutes
returns-then-refutes g c = λ F read known. (
  IsTried.none (λ T held. c.refutes.ensures.none_held c.if-refutes.true F c.args.remains.now.first known.walks c.requires.within c.requires.safe T held) refl refl,
  known,
)

pub walk_loss-requires-clause-unrefuted : goal.walk_loss-requires-clause-unrefuted
walk_loss-requires-clause-unrefuted g c κs within = λ is. false≢true (sym c.if-refutes.false ∙ c.refutes.ensures.refuted.1 is)

pub returns-else-refutes : goal.returns-else-refutes
returns-else-refutes g c = c.walk_loss.ensures.tried
