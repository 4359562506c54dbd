use Rattle.std.proofs.Common.{◌≡◌, ◌<◌, ◌∙◌, [], ap, sym, subst, length, get_or, arith}
use Rattle.std.specs.Prelude.{slice_index}
use Rattle.std.proofs.lemmas.List.{length-map, get_or-map}
use Rattle.cs_order.specs.declared.segments.ProjectionOrder.{ProjectionOrder}
use Rattle.cs_order.specs.Places.{HasPlaces, segment_lists}
use Rattle.cs_order.proofs.SortedNumbers.{any_default}
use Rattle.cs_order.proofs.all_orders.Orders.place.Goals as goal

pub find_row-requires-clause-there : goal.find_row-requires-clause-there
find_row-requires-clause-there c =
    let order = c.index-order.result.now in
    let long = length-map c.self.inside.projections.items (λ (o : ProjectionOrder). o.segments.items) in
    let here : c.args.p < length c.self.inside.projections.items = omega (arith, rw (← c.self.view_is) at c.requires.projection, long) in
    let held : HasPlaces c.self.inside.rows order = subst (HasPlaces c.self.inside.rows) (sym c.index-order.ensures) (c.self.invariant c.args.p order here) in
    rw c.deref.ensures.value (held.each c.args.row (rw (← c.self.view_is) at c.requires.row))

pub returns : goal.returns
returns c =
    let order = c.index-order.result.now in
    let projections = c.self.inside.projections.items in
    let long = length-map projections (λ (o : ProjectionOrder). o.segments.items) in
    let here : c.args.p < length projections = omega (arith, rw (← c.self.view_is) at c.requires.projection, long) in
    let held : HasPlaces c.self.inside.rows order = subst (HasPlaces c.self.inside.rows) (sym c.index-order.ensures) (c.self.invariant c.args.p order here) in
    let listed : c.args.row < length order.places.items = omega (arith, c.if-row-len.false, c.len.ensures) in
    let place : c.index-place.result.now ≡ slice_index order.places.items c.args.row = c.index-place.ensures ∙ any_default order.places.items c.args.row c.index-place.result.now 0 listed in
    let lists : get_or (segment_lists projections) c.args.p [] ≡ order.segments.items =
    get_or-map (λ (o : ProjectionOrder). o.segments.items) projections c.args.p order [] here ∙ ap (λ (o : ProjectionOrder). o.segments.items) (sym c.index-order.ensures) in
    rw (← c.self.view_is, lists, place) (held.places c.args.row (rw (← c.self.view_is) at c.requires.row) listed)
