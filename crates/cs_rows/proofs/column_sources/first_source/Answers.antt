use Rattle.cs_rows.proofs.FoundRows.{source_found, source_past}
use Rattle.cs_rows.proofs.column_sources.first_source.Goals as goal

pub returns-then-place-columns : goal.returns-then-place-columns
returns-then-place-columns c =
    source_found c.args.survivors.now.catalog c.args.c c.args.projections.now c.loop-at.at c.loop-at-test.true c.loop-at.invariant
    c.columns_of-columns.result.now c.columns_of-columns.ensures c.place_in-place.result c.place_in-place.ensures c.if-place-columns.true

pub loop-at-preserved : goal.loop-at-preserved
loop-at-preserved c =
    source_past c.args.survivors.now.catalog c.args.c c.args.projections.now c.loop-at.at c.loop-at-test.true c.loop-at.invariant
    c.columns_of-columns.result.now c.columns_of-columns.ensures c.place_in-place.result c.place_in-place.ensures c.if-place-columns.false
