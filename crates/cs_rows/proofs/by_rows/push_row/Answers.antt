use Rattle.std.proofs.Common.{◌<◌, arith, sym, ap, ◌∙◌, length, get_or}
use Rattle.std.proofs.Math.ListN.{length-set}
use Rattle.std.proofs.Common.{get_or-set_other, ◌≢◌, ◌++◌, ◌∷◌, []}
use Rattle.cs_schema.specs.Values.{kind_of, values}
use Rattle.cs_schema.specs.declared.cells.Value.{Value}
use Rattle.cs_rows.specs.declared.column_sources.Source.{Source}
use Rattle.cs_rows.specs.Survivors.{contents_of}
use Rattle.cs_rows.specs.RowSteps.{through}
use Rattle.cs_rows.specs.WalkByRows.{found_row}
use Rattle.cs_rows.proofs.StepLemmas.{image_there}
use Rattle.cs_rows.proofs.FoundRows.{read_at, source_inside, source_stands, source_there, pushed_more}
use Rattle.cs_rows.proofs.by_rows.push_row.Goals as goal

abbrev nothing : Source
nothing = record { reached = 0; place = 0 }

pub image-requires-clause-segment : goal.image-requires-clause-segment
image-requires-clause-segment c =
    let l : c.loop-c.c < length c.args.survivors.now.catalog.columns = omega (arith, c.requires.columns.count) in
    let source : Source = get_or c.args.sources.now c.loop-c.c nothing in
    let s = source_stands c.args.survivors.now.catalog c.args.survivors.now c.args.reached.now c.requires.sources.stand c.loop-c.c l source (c.requires.sources.each c.loop-c.c nothing l) in
    s.1.0

pub unreachable-requires : goal.unreachable-requires
unreachable-requires c =
    let l : c.loop-c.c < length c.args.survivors.now.catalog.columns = omega (arith, c.requires.columns.count) in
    let source : Source = get_or c.args.sources.now c.loop-c.c nothing in
    let s = source_stands c.args.survivors.now.catalog c.args.survivors.now c.args.reached.now c.requires.sources.stand c.loop-c.c l source (c.requires.sources.each c.loop-c.c nothing l) in
    image_there c.args.survivors.now.catalog c.args.survivors.now (read_at c.args.reached.now source).0 (read_at c.args.reached.now source).1 s.1 c.in-None.ensures.image

pub push_cell-requires-clause-row : goal.push_cell-requires-clause-row
push_cell-requires-clause-row c =
    let l : c.loop-c.c < length c.args.survivors.now.catalog.columns = omega (arith, c.requires.columns.count) in
    let source : Source = get_or c.args.sources.now c.loop-c.c nothing in
    (source_there c.args.survivors.now.catalog c.args.survivors.now c.args.reached.now c.requires.sources.stand c.loop-c.c l source (c.requires.sources.each c.loop-c.c nothing l) c.in-Some.image.now c.in-Some.ensures.image c.in-Some.ensures.kinds).in_image

pub push_cell-requires-clause-there : goal.push_cell-requires-clause-there
push_cell-requires-clause-there c =
    let l : c.loop-c.c < length c.args.survivors.now.catalog.columns = omega (arith, c.requires.columns.count) in
    let source : Source = get_or c.args.sources.now c.loop-c.c nothing in
    (source_there c.args.survivors.now.catalog c.args.survivors.now c.args.reached.now c.requires.sources.stand c.loop-c.c l source (c.requires.sources.each c.loop-c.c nothing l) c.in-Some.image.now c.in-Some.ensures.image c.in-Some.ensures.kinds).in_row

pub push_cell-requires-clause-kind : goal.push_cell-requires-clause-kind
push_cell-requires-clause-kind c =
    let l : c.loop-c.c < length c.args.survivors.now.catalog.columns = omega (arith, c.requires.columns.count) in
    let source : Source = get_or c.args.sources.now c.loop-c.c nothing in
    let there = source_there c.args.survivors.now.catalog c.args.survivors.now c.args.reached.now c.requires.sources.stand c.loop-c.c l source (c.requires.sources.each c.loop-c.c nothing l) c.in-Some.image.now c.in-Some.ensures.image c.in-Some.ensures.kinds in
    ap kind_of (c.index_mut.ensures.value ∙ c.loop-c.invariant.2 c.loop-c.c c.index_mut.result.now (omega arith)) ∙ c.requires.columns.kinds c.loop-c.c c.index_mut.result.now l ∙ sym there.kind

pub bounds-reached-source : goal.bounds-reached-source
bounds-reached-source c =
    let l : c.loop-c.c < length c.args.survivors.now.catalog.columns = omega (arith, c.requires.columns.count) in
    let source : Source = get_or c.args.sources.now c.loop-c.c nothing in
    source_inside c.args.survivors.now.catalog c.args.survivors.now c.args.reached.now c.requires.sources.stand c.loop-c.c l source (c.requires.sources.each c.loop-c.c nothing l)

pub image-requires-clause-projection : goal.image-requires-clause-projection
image-requires-clause-projection c =
    let l : c.loop-c.c < length c.args.survivors.now.catalog.columns = omega (arith, c.requires.columns.count) in
    let source : Source = get_or c.args.sources.now c.loop-c.c nothing in
    (source_stands c.args.survivors.now.catalog c.args.survivors.now c.args.reached.now c.requires.sources.stand c.loop-c.c l source (c.requires.sources.each c.loop-c.c nothing l)).0

pub loop-c-preserved : goal.loop-c-preserved
loop-c-preserved c =
    let l : c.loop-c.c < length c.args.survivors.now.catalog.columns = omega (arith, c.requires.columns.count) in
    let source : Source = get_or c.args.sources.now c.loop-c.c nothing in
    let there = source_there c.args.survivors.now.catalog c.args.survivors.now c.args.reached.now c.requires.sources.stand c.loop-c.c l source (c.requires.sources.each c.loop-c.c nothing l) c.in-Some.image.now c.in-Some.ensures.image c.in-Some.ensures.kinds in (
      length-set c.loop-c.columns.items c.loop-c.c c.push_cell.new.cells ∙ c.loop-c.invariant.0,
      pushed_more c.args.columns.now.items c.loop-c.columns.items (found_row c.args.survivors.now.catalog (contents_of c.args.survivors.now) (through c.args.reached.now)) c.loop-c.c c.index_mut.result.now c.push_cell.new.cells (omega (arith, c.loop-c.invariant.0)) c.loop-c.invariant.1 c.loop-c.invariant.2 c.index_mut.ensures.value
          c.in_ok-push_cell-in-Some.ensures.kind
          (c.in_ok-push_cell-in-Some.ensures.ok ∙ ap (λ (v : Value). values c.index_mut.result.now ++ v ∷ []) there.value),
      λ k d h. let ne : k ≢ c.loop-c.c = omega arith in get_or-set_other c.loop-c.columns.items c.loop-c.c k c.push_cell.new.cells d ne ∙ c.loop-c.invariant.2 k d (omega arith),
    )

pub returns-clause-ok : goal.returns-clause-ok
returns-clause-ok c k d h = c.loop-c.invariant.1 k d (omega (arith, h, c.loop-c-test.false, c.loop-c.auto.c-end, c.len-c-end.ensures, c.requires.columns.count))
