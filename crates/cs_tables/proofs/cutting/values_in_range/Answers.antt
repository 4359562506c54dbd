use Rattle.std.proofs.Common.{◌≡◌, ◌<◌, ◌≤◌, ℕ, List, length, get_or, true, false, refl, ap, sym, arith, ◌∙◌}
use Rattle.std.specs.Prelude.{slice_index, pos}
use Rattle.std.proofs.lemmas.Bool.{eq-eqb, ne_eqb}
use Rattle.std.proofs.lemmas.List.{append-nil, get_or_read, take_all}
use Rattle.std.proofs.lemmas.Option.{get_or_from_slice_get}
use Rattle.cs_schema.specs.CatalogData.{projection}
use Rattle.cs_schema.specs.Rows.{cell}
use Rattle.cs_schema.specs.Ranges.{range_of}
use Rattle.cs_schema.specs.Values.{values}
use Rattle.cs_rows.specs.WalkedView.{count_of}
use Rattle.cs_recovery.specs.Columns.{rows_in}
use Rattle.cs_schema.specs.declared.cells.Value.{Value}
use Rattle.cs_tables.specs.Cutting.{values_in}
use Rattle.cs_tables.proofs.CountLemmas.{value-more, first_inside, rows-count}
use Rattle.cs_tables.proofs.cutting.values_in_range.Goals as goal
use Rattle.cs_tables.proofs.cutting.values_in_range.Goals.{then-segment_of_cell-s+in_ok-push, else-segment_of_cell-s}

pub bounds-rows-first : goal.bounds-rows-first
bounds-rows-first c =
    let C = c.args.catalog.now in
    let cat = c.projection.ensures.rules in
    let sort = c.behind-catalog.inside.sort.items in
    let first = c.index-first.result.now in
    let same : sort ≡ (projection C c.args.p).sort = ap (λ P. P.sort) (c.behind-catalog.view_is ∙ c.projection.ensures.is) in
    let some = (cat.projections c.args.p c.requires.projection).some_sort in
    let low : 0 < length c.behind-catalog.inside.sort.items = omega (arith, ap length same, some) in
    let at = get_or_read sort 0 first low c.index-first.ensures first in
    let inside = first_inside C cat c.args.p c.requires.projection sort first same at in
    omega (arith, inside, c.requires.columns.count)

pub loop-row-preserved : goal.loop-row-preserved
loop-row-preserved c =
    let C = c.args.catalog.now in
    let cat = c.projection.ensures.rules in
    let rows = c.args.rows.now in
    let sort = c.behind-catalog.inside.sort.items in
    let first = c.index-first.result.now in
    let same : sort ≡ (projection C c.args.p).sort = ap (λ P. P.sort) (c.behind-catalog.view_is ∙ c.projection.ensures.is) in
    let some = (cat.projections c.args.p c.requires.projection).some_sort in
    let low : 0 < length c.behind-catalog.inside.sort.items = omega (arith, ap length same, some) in
    let at = get_or_read sort 0 first low c.index-first.ensures first in
    let inside : c.index-first.result.now < length C.columns = first_inside C cat c.args.p c.requires.projection sort first same at in
    let within : c.index-first.result.now < length c.args.rows.now = omega (arith, inside, c.requires.columns.count) in
    let is : c.index-first.result.now ≡ slice_index (projection C c.args.p).sort 0 = get_or_read sort 0 first low c.index-first.ensures 0 ∙ ap (λ (l : List ℕ). get_or l 0 0) same in
    let y = c.index-rows-first.result in
    let size : length (values (get_or rows first y)) ≡ count_of rows = c.requires.columns.even first y inside in
    let there : c.loop-row.row < count_of rows = omega (arith, size, ap (λ x. length (values x)) c.index-rows-first.is) in
    let range : c.segment_of_cell.result ≡ range_of (projection C c.args.p).cuts (cell (values (get_or rows first y)) c.loop-row.row) =
    c.segment_of_cell.ensures.range ∙ ap (λ x. range_of (projection C c.args.p).cuts (cell (values x) c.loop-row.row)) c.index-rows-first.is in
    elim c.if-segment_of_cell-s.branch [
      | then-segment_of_cell-s+in_ok-push w ↦
          let v = w.cell.result in
          let is_v : cell (values (get_or rows first y)) c.loop-row.row ≡ v = ap (λ x. cell (values x) c.loop-row.row) (sym c.index-rows-first.is) ∙ get_or_from_slice_get (values c.index-rows-first.result) c.loop-row.row v (Value.Int (pos 0)) w.cell.ensures.value in
          let more = value-more C c.args.p c.args.s rows y first c.loop-row.row is within there c.loop-row.found.items true v c.loop-row.invariant (eq-eqb _ c.args.s (sym range ∙ w.if-segment_of_cell-s.true)) is_v in
          ap (λ f. f.items) w.found-is ∙ w.in_ok-push.ensures.items ∙ more
      | else-segment_of_cell-s w ↦
          let v = cell (values (get_or rows first y)) c.loop-row.row in
          let more = value-more C c.args.p c.args.s rows y first c.loop-row.row is within there c.loop-row.found.items false v c.loop-row.invariant (ne_eqb _ c.args.s (λ e. w.if-segment_of_cell-s.false (range ∙ e))) refl in
          ap (λ f. f.items) w.found-is ∙ sym (append-nil c.loop-row.found.items) ∙ more
    ]

pub returns : goal.returns
returns c =
    let C = c.args.catalog.now in
    let cat = c.projection.ensures.rules in
    let rows = c.args.rows.now in
    let sort = c.behind-catalog.inside.sort.items in
    let first = c.index-first.result.now in
    let same : sort ≡ (projection C c.args.p).sort = ap (λ P. P.sort) (c.behind-catalog.view_is ∙ c.projection.ensures.is) in
    let some = (cat.projections c.args.p c.requires.projection).some_sort in
    let low : 0 < length c.behind-catalog.inside.sort.items = omega (arith, ap length same, some) in
    let at = get_or_read sort 0 first low c.index-first.ensures first in
    let inside : c.index-first.result.now < length C.columns = first_inside C cat c.args.p c.requires.projection sort first same at in
    let y = c.index-rows-first.result in
    let size : length (values (get_or rows first y)) ≡ count_of rows = c.requires.columns.even first y inside in
    let all : length (rows_in rows) ≤ c.loop-row.row = omega (arith, size, ap (λ x. length (values x)) c.index-rows-first.is, rows-count rows) in
    c.loop-row.invariant ∙ ap (values_in C c.args.p c.args.s) (take_all c.loop-row.row (rows_in rows) all)
