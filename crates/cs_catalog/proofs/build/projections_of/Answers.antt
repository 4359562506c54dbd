use Rattle.std.proofs.Common.{ap, ◌∙◌}
use Rattle.std.specs.List.{list_all}
use Rattle.cs_schema.specs.Rules.{is_name, has_cuts}
use Rattle.cs_schema.specs.Named.{projection_data}
use Rattle.cs_catalog.proofs.Mapped.{mapped_item}
use Rattle.cs_catalog.proofs.Passing.{all_at}
use Rattle.cs_catalog.proofs.build.projections_of.Goals as goal

pub projection_of-requires-clause-name : goal.projection_of-requires-clause-name
projection_of-requires-clause-name c =
    let named = ap (λ d. list_all (λ p. is_name p.name) d.projections) c.document.view_is ∙ c.requires.names in
    all_at (λ p. is_name p.name) c.as_slice-entries.result.now c.loop-entry.entry-index c.entry-item.result c.loop-entry-test.true c.entry-item.is (rw c.as_slice-entries.ensures.value named)

pub projection_of-requires-clause-cuts : goal.projection_of-requires-clause-cuts
projection_of-requires-clause-cuts c =
    let columns = c.args.document.now.columns in
    let cut = ap (λ d. list_all (has_cuts columns) d.projections) c.document.view_is ∙ c.requires.cuts in
    all_at (has_cuts columns) c.as_slice-entries.result.now c.loop-entry.entry-index c.entry-item.result c.loop-entry-test.true c.entry-item.is (rw c.as_slice-entries.ensures.value cut)

pub loop-entry-preserved : goal.loop-entry-preserved
loop-entry-preserved c =
    rw (c.in_ok-push.ensures.items, c.in_ok-projection_of.ensures)
    (mapped_item (projection_data c.args.document.now) c.as_slice-entries.result.now c.loop-entry.entry-index c.entry-item.result c.loop-entry.projections.items c.loop-entry-test.true c.entry-item.is c.loop-entry.invariant)
