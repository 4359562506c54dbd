use Rattle.std.proofs.Common.{ap, ◌∙◌}
use Rattle.cs_schema.specs.Rules.{is_kind}
use Rattle.cs_catalog.proofs.Passing.{all_next}
use Rattle.cs_catalog.proofs.rules.kinds_problem.Goals as goal

pub loop-column-preserved : goal.loop-column-preserved
loop-column-preserved c =
    let passes = c.if-not-is_kind.ensures ∙ ap (λ x. is_kind x.kind) c.column.view_is in
    all_next (λ x. is_kind x.kind) c.as_slice-columns.result.now c.loop-column.column-index c.column-item.result _ c.loop-column-test.true c.column-item.is passes c.loop-column.invariant
