use Rattle.std.proofs.Common.{refl, sym, ◌∙◌, arith}
use Rattle.std.proofs.lemmas.Option.{slice_get_within}
use Rattle.cs_schema.proofs.Ascending.{false≢true}
use Rattle.cs_schema.proofs.Lists.{in_at, at_in}
use Rattle.cs_design.proofs.Items.{item_at, below_next}
use Rattle.cs_diagnosis.specs.declared.findings.Explanation.{Explanation}
use Rattle.pinepolo_answers.specs.Spare.{Spares}
use Rattle.pinepolo_answers.proofs.doubted.is_spare.Goals as goal

pub returns-then-spares : goal.returns-then-spares
returns-then-spares c =
    let item = item_at c.args.found.now c.loop-explanation.explanation-index c.explanation-item.result c.loop-explanation-test.true c.explanation-item.is in
    (λ t. (c.explanation-item.result, in_at c.args.found.now c.loop-explanation.explanation-index c.explanation-item.result item, c.spares.ensures.0 c.if-spares.true), λ e. refl)

pub loop-explanation-preserved : goal.loop-explanation-preserved
loop-explanation-preserved c =
    let item = item_at c.args.found.now c.loop-explanation.explanation-index c.explanation-item.result c.loop-explanation-test.true c.explanation-item.is in
    below_next (λ (e : Explanation). ¬ Spares e c.args.loss c.args.site) c.args.found.now c.loop-explanation.explanation-index c.explanation-item.result item (λ w. false≢true (sym c.if-spares.false ∙ c.spares.ensures.1 w)) c.loop-explanation.invariant

pub returns : goal.returns
returns c = (
  λ e. false≢true e,
  λ x.
      let place = at_in c.args.found.now x.0 x.1 in
      let low = slice_get_within c.args.found.now place.0 x.0 place.1 in
      let end = c.loop-explanation-test.false in
      absurd (c.loop-explanation.invariant place.0 x.0 (omega (arith, low, end)) place.1 x.2),
)
