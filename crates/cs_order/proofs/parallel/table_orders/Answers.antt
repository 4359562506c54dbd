use Rattle.std.proofs.Common.{◌≡◌, ◌+◌, ◌-◌, ◌<◌, [], ◌∷◌, Ok, Err, length, sym, ap, ◌∙◌, subst, arith, length-append, below_more}
use Rattle.std.proofs.lemmas.List.{map-append, length-map}
use Rattle.std.proofs.lemmas.List.Elements.{All-push}
use Rattle.std.proofs.Crossing.{crosses}
use Rattle.std.specs.List.{AllZip, range_with_len}
use Rattle.std.specs.List.Sorted.{IsPermutation}
use denote.Param.Send.{sendable}
use Rattle.cs_order.specs.declared.segments.ProjectionOrder.{ProjectionOrder}
use Rattle.cs_order.specs.Tables.{table_of}
use Rattle.cs_order.specs.Numbers.{AreSegmentsOf, listed_or}
use Rattle.cs_order.specs.Faults.{IsOrderFault}
use Rattle.cs_order.specs.Places.{HasPlaces, segment_lists}
use Rattle.cs_order.specs.Sides.{IsOrderOrFault}
use Rattle.cs_order.proofs.AllOrders.{are_orders}
use Rattle.cs_order.proofs.FullRanges.{none_full}
use Rattle.cs_order.proofs.FirstFault.{err_from, range_fault}
use Rattle.cs_order.proofs.Filling.{lists_more}
use Rattle.cs_order.proofs.Sides.{one_taken, none_taken}
use Rattle.cs_order.proofs.parallel.table_orders.Goals as goal

pub made_orders-requires : goal.made_orders-requires
made_orders-requires g c = (
  search (sendable, crosses) depth 40,
  record {
    once = sym c.key_stands_twice.ensures ∙ c.if-key_stands_twice.false;
    all_is = c.deref-3.ensures.value ∙ c.in_ok-all.ensures;
    by_key_is =
        rw (c.listed_or-by_key.ensures, c.deref-2.ensures.value)
        (subst (λ l. IsPermutation l (listed_or c.in_ok-sorted.sorted c.in_ok-all.all.items)) c.in_ok-all.ensures (rw c.deref.ensures.value at c.in_ok-sorted.ensures.permutation));
    sorted = rw (c.listed_or-by_key.ensures, c.deref-2.ensures.value) (rw c.deref.ensures.value at c.in_ok-sorted.ensures.sorted);
  },
)

pub remove-requires : goal.remove-requires
remove-requires g c =
    let C = c.args.catalog.now in
    let some = (one_taken (IsOrderOrFault C c.args.walked.now.rows) c.loop-p._p (length C.projections) c.loop-p.made.items (omega (arith, c.projection_count-p-end.ensures.count, c.loop-p-test.true)) c.loop-p.invariant.left).0 in
    subst (λ n. 0 < n) (sym c.loop-p.made.ok.0) some

pub loop-p-init : goal.loop-p-init
loop-p-init g c = record {
  count = ap length c.new-projections.ensures.items;
  each = λ q low. absurd (omega (arith, low));
  places = rw c.new-projections.ensures.items (λ k d low. absurd (omega (arith, low)));
  fit = λ q low. absurd (omega (arith, low));
  left = none_taken (IsOrderOrFault c.args.catalog.now c.args.walked.now.rows) (length c.args.catalog.now.projections) c.in_ok-made.made.items c.in_ok-made.ensures;
}

pub returns-in_err-order-clause-fault : goal.returns-in_err-order-clause-fault
returns-in_err-order-clause-fault g c =
    let C = c.args.catalog.now in
    let rows = c.args.walked.now.rows in
    let here : c.loop-p._p < length C.projections = omega (arith, c.projection_count-p-end.ensures.count) in
    let taken = (one_taken (IsOrderOrFault C rows) c.loop-p._p (length C.projections) c.loop-p.made.items here c.loop-p.invariant.left).1 (Err c.in_err-order.field-0.0) c.in_err-order.ensures.value in
    let fault = range_fault C rows c.loop-p._p c.in_err-order.field-0.0 (sym c.key_stands_twice.ensures ∙ c.if-key_stands_twice.false) here c.loop-p.invariant.fit taken.0.fault in
    err_from c.from_residual-in_err-order.result _ _ c.from_residual-in_err-order.ensures.1 (λ e same. subst (IsOrderFault C rows) (sym same) fault)

pub loop-p-preserved : goal.loop-p-preserved
loop-p-preserved g c =
    let C = c.args.catalog.now in
    let rows = c.args.walked.now.rows in
    let here : c.loop-p._p < length C.projections = omega (arith, c.projection_count-p-end.ensures.count) in
    let taken = (one_taken (IsOrderOrFault C rows) c.loop-p._p (length C.projections) c.loop-p.made.items here c.loop-p.invariant.left).1 (Ok c.in_ok-order.order) c.in_ok-order.ensures.value in
    let made = taken.0.order in
    let pushed = c.in_ok-push.ensures.items in
    let lists = ap segment_lists pushed ∙ map-append (λ (o : ProjectionOrder). o.segments.items) c.loop-p.projections.items (c.in_ok-order.order ∷ []) in
    let long = length-map c.loop-p.projections.items (λ (o : ProjectionOrder). o.segments.items) ∙ c.loop-p.invariant.count in
    record {
      count = ap length pushed ∙ length-append c.loop-p.projections.items _ ∙ ap (λ n. n + 1) c.loop-p.invariant.count;
      each = lists_more [] (λ q l. AreSegmentsOf C rows q l) (segment_lists c.loop-p.projections.items) _ c.in_ok-order.order.segments.items c.loop-p._p lists long c.loop-p.invariant.each made.order;
      places = rw pushed (All-push (HasPlaces (length rows)) c.loop-p.projections.items c.in_ok-order.order c.loop-p.invariant.places made.places);
      fit = below_more _ _ c.loop-p.invariant.fit made.fit;
      left = subst (AllZip (IsOrderOrFault C rows) (range_with_len (c.loop-p._p + 1) (length C.projections - (c.loop-p._p + 1)))) (sym c.in_ok-order.ensures.items) taken.1;
    }

pub returns-clause-orders : goal.returns-clause-orders
returns-clause-orders g c =
    let end : c.loop-p._p ≡ length c.args.catalog.now.projections = omega (arith, c.projection_count-p-end.ensures.count) in
    are_orders c.args.catalog.now c.args.walked.now.rows _ (sym c.key_stands_twice.ensures ∙ c.if-key_stands_twice.false) c.rows.ensures
    (length-map c.loop-p.projections.items (λ (o : ProjectionOrder). o.segments.items) ∙ c.loop-p.invariant.count ∙ end)
    (λ q h. c.loop-p.invariant.each q (omega arith))

pub returns-clause-fit : goal.returns-clause-fit
returns-clause-fit g c = none_full c.args.catalog.now (table_of c.args.catalog.now c.args.walked.now.rows) (λ q h. c.loop-p.invariant.fit q (omega (arith, c.projection_count-p-end.ensures.count)))
