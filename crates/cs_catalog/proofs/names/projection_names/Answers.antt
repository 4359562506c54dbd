use Rattle.std.proofs.Common.{ap, [], ◌∷◌, ◌++◌, ◌∙◌}
use Rattle.std.proofs.lemmas.List.{map-append}
use Rattle.cs_catalog.specs.Tree.{texts}
use Rattle.cs_catalog.proofs.Mapped.{mapped_item}
use Rattle.cs_catalog.proofs.names.projection_names.Goals as goal

pub loop-projection-preserved : goal.loop-projection-preserved
loop-projection-preserved c =
    let names = texts c.loop-projection.names.items in
    rw (c.in_ok-push.ensures.items, map-append)
    (ap (λ x. names ++ x.name ∷ []) c.projection.view_is ∙ mapped_item (λ x. x.name) c.args.projections.now c.loop-projection.projection-index c.projection-item.result names c.loop-projection-test.true c.projection-item.is c.loop-projection.invariant)
