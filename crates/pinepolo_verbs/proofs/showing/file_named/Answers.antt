use Rattle.std.proofs.Common.{◌∙◌}
use Rattle.cs_schema.specs.declared.file_name.FileName.TheVariants.{Seg}
use Rattle.cs_inspection.proofs.Listing.{has_name}
use Rattle.pinepolo_verbs.proofs.showing.file_named.Goals as goal

pub returns-then-is_called : goal.returns-then-is_called
returns-then-is_called c =
    let named = has_name c.args.catalog.now c.projection_count-rules.ensures.rules c.none.result c.deref-name-items.result.now (c.deref-name-items.ensures.value ∙ c.in_ok-names.ensures.names) c.loop-name.name-index (Seg 0 0) c.loop-name-test.true in
    (named, c.is_called.ensures c.if-is_called.true)
