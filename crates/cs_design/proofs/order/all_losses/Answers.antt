use Rattle.std.proofs.Common.{◌≡◌, ◌+◌, sym, ap, subst, ◌∙◌, arith}
use Rattle.cs_design.specs.Order.{AreAllLosses}
use Rattle.cs_design.proofs.TailLists.{losses_up_to, next_size, all_losses_are}
use Rattle.cs_design.proofs.order.all_losses.Goals as goal

pub returns : goal.returns
returns c =
    let done = c.loop-count-test.false in
    let high = c.loop-count.auto.count-end in
    let end : c.loop-count.count ≡ c.args.at_most + 1 = omega (arith, done, high) in
    let all = c.loop-count.invariant ∙ ap (losses_up_to c.site_count-sites.result) end ∙ ap (λ s. losses_up_to s (c.args.at_most + 1)) c.site_count-sites.ensures.count in
    subst (AreAllLosses c.args.catalog.now c.args.at_most) (sym all) (all_losses_are c.args.catalog.now c.args.at_most)

pub loop-count-preserved : goal.loop-count-preserved
loop-count-preserved c =
    next_size c.site_count-sites.result c.loop-count.count c.loop-count.losses.items c.add_losses.new.losses.items c.none.result c.none.ensures c.loop-count.invariant c.in_ok-add_losses.ensures
