use Rattle.std.proofs.Common.{◌≡◌, true, rules}
use Rattle.cs_catalog.specs.ProjectionRules.{keeps}
use Rattle.cs_catalog.proofs.Passing.{all_next}
use Rattle.cs_catalog.proofs.rules.in_projections.Goals as goal

pub loop-projection-preserved : goal.loop-projection-preserved
loop-projection-preserved c =
    let passes : true ≡ keeps c.args.rule c.args.document.now c.projection-item.result = search rules in
    all_next (keeps c.args.rule c.args.document.now) c.as_slice-projections.result.now c.loop-projection.projection-index c.projection-item.result _ c.loop-projection-test.true c.projection-item.is passes c.loop-projection.invariant
