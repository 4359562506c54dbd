use Rattle.std.proofs.Common.{ap, [], ◌∷◌, ◌++◌, ◌∙◌}
use Rattle.std.proofs.lemmas.List.{map-append}
use Rattle.cs_catalog.specs.Tree.{texts}
use Rattle.cs_catalog.proofs.Mapped.{mapped_item}
use Rattle.cs_catalog.proofs.names.column_names.Goals as goal

pub loop-column-preserved : goal.loop-column-preserved
loop-column-preserved c =
    let names = texts c.loop-column.names.items in
    rw (c.in_ok-push.ensures.items, map-append)
    (ap (λ x. names ++ x.name ∷ []) c.column.view_is ∙ mapped_item (λ x. x.name) c.args.columns.now c.loop-column.column-index c.column-item.result names c.loop-column-test.true c.column-item.is c.loop-column.invariant)
