use Rattle.std.proofs.Common.{◌-◌, ◌<◌, length, arith, ◌∙◌}
use Rattle.std.specs.List.{range_with_len}
use Rattle.std.proofs.Crossing.{crosses}
use denote.Param.Send.{sendable}
use Rattle.rayon.proofs.ListFacts.{IfOk-then}
use Rattle.rayon.proofs.ToStd.{nat_range-All}
use Rattle.cs_order.specs.Sides.{IsOrderOrFault}
use Rattle.cs_order.proofs.Sides.{all_made}
use Rattle.cs_order.proofs.parallel.made_orders.Goals as goal

pub collect-requires-clause-ready : goal.collect-requires-clause-ready
collect-requires-clause-ready g c κs within =
    let ends = c.into_par_iter.ensures in
    let inside = nat_range-All (λ p. p < length c.args.sorter.now.catalog.now.projections) 0 c.projection_count.result
    (λ p low high. omega (arith, high, c.projection_count.ensures.count)) in
    rw (c.map.ensures.base, c.map.ensures.f, c.with_min_len.ensures.base, ends.0, ends.1) (λ k d lt. ((c.requires.rows, (inside k d lt, search (sendable, crosses) depth 40)), λ y p. tt))

pub returns : goal.returns
returns g c =
    let ends = c.into_par_iter.ensures in
    let read = rw c.map.ensures.base at c.collect.ensures in
    IfOk-then c.collect.result _ _ read (λ made h.
    let chain = h.1 in
    all_made (IsOrderOrFault c.args.sorter.now.catalog.now c.args.sorter.now.walked.now.rows) c.projection_count.result (length c.args.sorter.now.catalog.now.projections) chain.0 h.0 made.items c.projection_count.ensures.count
    (chain.1 ∙ (λ i. let r = c.with_min_len.ensures.base i in range_with_len r.start (r.end - r.start)) ∙ (λ i. range_with_len (ends.0 i) (ends.1 i - ends.0 i))) (rw c.map.ensures.f at chain.2) h.2)
