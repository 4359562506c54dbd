use Rattle.cs_schema.specs.Named.{column_place}
use Rattle.cs_catalog.proofs.TextLists.{push_next}
use Rattle.cs_catalog.proofs.build.column_places.Goals as goal

pub loop-name-preserved : goal.loop-name-preserved
loop-name-preserved c =
    rw (c.in_ok-push.ensures.items, c.column_place.ensures)
    (push_next (column_place c.args.columns.now) c.args.names.now c.loop-name.name-index _ c.loop-name.places.items c.loop-name-test.true c.loop-name.invariant)
