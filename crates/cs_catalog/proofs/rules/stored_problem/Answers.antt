use Rattle.cs_schema.specs.Rules.{is_stored}
use Rattle.cs_catalog.proofs.Passing.{all_next}
use Rattle.cs_catalog.proofs.rules.stored_problem.Goals as goal

pub loop-column-preserved : goal.loop-column-preserved
loop-column-preserved c =
    all_next (is_stored c.as_slice-projections.result.now) c.as_slice-columns.result.now c.loop-column.column-index c.column-item.result _ c.loop-column-test.true c.column-item.is c.if-not-is_stored.ensures c.loop-column.invariant
