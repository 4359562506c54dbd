use Rattle.std.proofs.Common.{refl, sym, ◌∙◌, arith}
use Rattle.std.proofs.lemmas.Option.{slice_get_within}
use Rattle.cs_schema.proofs.Ascending.{false≢true}
use Rattle.cs_schema.proofs.Lists.{in_at, at_in}
use Rattle.cs_diagnosis.specs.declared.findings.Explanation.{Explanation}
use Rattle.cs_safety.specs.Within.{IsWithin}
use Rattle.cs_design.proofs.Items.{item_at, below_next}
use Rattle.cs_diagnosis.proofs.explained.is_found.Goals as goal

pub returns-then-are_same : goal.returns-then-are_same
returns-then-are_same c =
    let item = item_at c.args.found.now c.loop-explanation.explanation-index c.explanation-item.result c.loop-explanation-test.true c.explanation-item.is in
    (λ t. let both = c.are_same.ensures.0 c.if-are_same.true in (c.explanation-item.result, in_at c.args.found.now c.loop-explanation.explanation-index c.explanation-item.result item, both.0, both.1), λ e. refl)

pub loop-explanation-preserved : goal.loop-explanation-preserved
loop-explanation-preserved c =
    let item = item_at c.args.found.now c.loop-explanation.explanation-index c.explanation-item.result c.loop-explanation-test.true c.explanation-item.is in
    below_next (λ (e : Explanation). ¬ (IsWithin e.loss c.args.loss × IsWithin c.args.loss e.loss)) c.args.found.now c.loop-explanation.explanation-index c.explanation-item.result item (λ w. false≢true (sym c.if-are_same.false ∙ c.are_same.ensures.1 w)) c.loop-explanation.invariant

pub returns : goal.returns
returns c = (
  λ e. false≢true e,
  λ x.
      let place = at_in c.args.found.now x.0 x.1 in
      let low = slice_get_within c.args.found.now place.0 x.0 place.1 in
      let end = c.loop-explanation-test.false in
      absurd (c.loop-explanation.invariant place.0 x.0 (omega (arith, low, end)) place.1 (x.2, x.3)),
)
