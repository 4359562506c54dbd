use Rattle.std.proofs.Common.{◌≡◌, Some, None, get_or, map, length, sym, ap, ◌∙◌, arith}
use Rattle.std.specs.Prelude.{slice_index}
use Rattle.std.proofs.lemmas.List.{get_or_past, get_or_default, length-map}
use Rattle.std.proofs.lemmas.Option.{slice_get_within}
use Rattle.cs_schema.specs.Order.{rows_of}
use Rattle.cs_schema.specs.Rows.{project}
use Rattle.cs_delta.specs.Image.{image_keys, Pair}
use Rattle.cs_rows.specs.Survivors.{contents_of, held, image_at}
use Rattle.cs_order.specs.Orders.{row_at}
use Rattle.cs_order.specs.Tables.{table_of}
use Rattle.cs_rebuild.proofs.Indexes.{is_fresh, is_kept, place_there, fresh_key}
use Rattle.cs_rebuild.proofs.OrderFacts.{row_there, segment_there, index_limit}
use Rattle.cs_rebuild.proofs.places.ExpectedJoinIndex.place.Goals as goal

pub overflow_add-result : goal.overflow_add-result
overflow_add-result c =
    let g = c.args.self.now.store.now in
    let low = index_limit g.catalog.now g.walked.rows g.orders g.order_room g.each g.ranges c.args.self.now.q c.place-t.result.0 c.place-t.result.1 c.args.row c.args.self.now.target c.place-t.ensures in
    omega (arith, low)

pub returns-then-is_lost-clause-place : goal.returns-then-is_lost-clause-place
returns-then-is_lost-clause-place c =
    let g = c.args.self.now.store.now in
    let C = g.catalog.now in
    let rows = g.walked.rows in
    let S = contents_of g.survivors.now in
    let q = c.args.self.now.q in
    let t = c.place-t.result.0 in
    let i = c.place-t.result.1 in
    let cells = map (project C q) (rows_of C (table_of C rows) q t) in
    let at = row_there C rows g.orders g.order_room g.each q t i c.args.row c.args.self.now.target c.place-t.ensures in
    let inside = slice_get_within (rows_of C (table_of C rows) q t) i (row_at rows c.args.row) at in
    let long : length cells ≡ length (rows_of C (table_of C rows) q t) = length-map (rows_of C (table_of C rows) q t) (project C q) in
    sym (place_there C rows g.loss S q t i (row_at rows c.args.row) at ∙ ap (λ m. (t, slice_index (image_keys m) i)) (is_fresh C rows g.loss S q t (sym c.is_lost.ensures ∙ c.if-is_lost.true)) ∙ ap (λ k. (t, k)) (fresh_key cells i (omega (arith, inside, long))))

pub returns-then-index-rows-clause-place : goal.returns-then-index-rows-clause-place
returns-then-index-rows-clause-place c =
    let g = c.args.self.now.store.now in
    let C = g.catalog.now in
    let rows = g.walked.rows in
    let S = contents_of g.survivors.now in
    let t = c.place-t.result.0 in
    let i = c.place-t.result.1 in
    let at = row_there C rows g.orders g.order_room g.each c.args.self.now.q t i c.args.row c.args.self.now.target c.place-t.ensures in
    let inside = segment_there C rows g.orders g.order_room g.each c.args.self.now.q t i c.args.row c.args.self.now.target c.place-t.ensures in
    let long_there = ap length c.args.self.now.targets_are in
    let room = (g.image_room c.args.self.now.q t (c.args.self.now.target, inside)).1 in
    let there : image_at g.survivors.now c.args.self.now.q t ≡ Some c.in-Some.image = ap (λ l. get_or l t None) (sym c.args.self.now.targets_are) ∙ get_or_default c.args.self.now.targets.now t None c.index-self-t.result (omega (arith, room, long_there, c.args.self.now.targets_count)) ∙ c.in-Some.is in
    sym (place_there C rows g.loss S c.args.self.now.q t i (row_at rows c.args.row) at ∙ ap (λ m. (t, slice_index (image_keys m) i)) (is_kept C rows g.loss S c.args.self.now.q t (sym c.is_lost.ensures ∙ c.if-is_lost.false) ∙ ap held there) ∙ ap (λ k. (t, k)) (sym c.key_at.ensures))

pub returns-else-index-rows-clause-place : goal.returns-else-index-rows-clause-place
returns-else-index-rows-clause-place c =
    let g = c.args.self.now.store.now in
    let C = g.catalog.now in
    let rows = g.walked.rows in
    let S = contents_of g.survivors.now in
    let t = c.place-t.result.0 in
    let i = c.place-t.result.1 in
    let m = c.in-Some.image.image in
    let at = row_there C rows g.orders g.order_room g.each c.args.self.now.q t i c.args.row c.args.self.now.target c.place-t.ensures in
    let long = length-map m.pairs (λ (x : Pair). x.0) in
    let inside = segment_there C rows g.orders g.order_room g.each c.args.self.now.q t i c.args.row c.args.self.now.target c.place-t.ensures in
    let long_there = ap length c.args.self.now.targets_are in
    let room = (g.image_room c.args.self.now.q t (c.args.self.now.target, inside)).1 in
    let there : image_at g.survivors.now c.args.self.now.q t ≡ Some c.in-Some.image = ap (λ l. get_or l t None) (sym c.args.self.now.targets_are) ∙ get_or_default c.args.self.now.targets.now t None c.index-self-t.result (omega (arith, room, long_there, c.args.self.now.targets_count)) ∙ c.in-Some.is in
    sym (place_there C rows g.loss S c.args.self.now.q t i (row_at rows c.args.row) at ∙ ap (λ m. (t, slice_index (image_keys m) i)) (is_kept C rows g.loss S c.args.self.now.q t (sym c.is_lost.ensures ∙ c.if-is_lost.false) ∙ ap held there)
    ∙ ap (λ k. (t, k)) (get_or_past (image_keys m) i 0 (omega (arith, long, c.if-index-rows.false, c.rows.ensures))))

pub returns-then-is_lost-clause-exists : goal.returns-then-is_lost-clause-exists
returns-then-is_lost-clause-exists c = let g = c.args.self.now.store.now in segment_there g.catalog.now g.walked.rows g.orders g.order_room g.each c.args.self.now.q c.place-t.result.0 c.place-t.result.1 c.args.row c.args.self.now.target c.place-t.ensures

pub returns-then-index-rows-clause-exists : goal.returns-then-index-rows-clause-exists
returns-then-index-rows-clause-exists c = let g = c.args.self.now.store.now in segment_there g.catalog.now g.walked.rows g.orders g.order_room g.each c.args.self.now.q c.place-t.result.0 c.place-t.result.1 c.args.row c.args.self.now.target c.place-t.ensures

pub returns-else-index-rows-clause-exists : goal.returns-else-index-rows-clause-exists
returns-else-index-rows-clause-exists c = let g = c.args.self.now.store.now in segment_there g.catalog.now g.walked.rows g.orders g.order_room g.each c.args.self.now.q c.place-t.result.0 c.place-t.result.1 c.args.row c.args.self.now.target c.place-t.ensures

pub returns-then-is_lost-clause-there : goal.returns-then-is_lost-clause-there
returns-then-is_lost-clause-there c = let g = c.args.self.now.store.now in (c.place-t.result.1, row_there g.catalog.now g.walked.rows g.orders g.order_room g.each c.args.self.now.q c.place-t.result.0 c.place-t.result.1 c.args.row c.args.self.now.target c.place-t.ensures)

pub returns-then-index-rows-clause-there : goal.returns-then-index-rows-clause-there
returns-then-index-rows-clause-there c = let g = c.args.self.now.store.now in (c.place-t.result.1, row_there g.catalog.now g.walked.rows g.orders g.order_room g.each c.args.self.now.q c.place-t.result.0 c.place-t.result.1 c.args.row c.args.self.now.target c.place-t.ensures)

pub returns-else-index-rows-clause-there : goal.returns-else-index-rows-clause-there
returns-else-index-rows-clause-there c = let g = c.args.self.now.store.now in (c.place-t.result.1, row_there g.catalog.now g.walked.rows g.orders g.order_room g.each c.args.self.now.q c.place-t.result.0 c.place-t.result.1 c.args.row c.args.self.now.target c.place-t.ensures)
