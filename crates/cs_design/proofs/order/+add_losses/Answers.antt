use Rattle.std.proofs.Common.{◌≡◌, suc, ◌+◌, ◌-◌, ◌∙◌, arith}
use Rattle.cs_safety.proofs.LossTails.{placed_last}
use Rattle.cs_design.proofs.TailLists.{next_site, all_sites}
use Rattle.cs_design.proofs.order.+add_losses.Goals as goal

pub loop-site-preserved : goal.loop-site-preserved
loop-site-preserved t c =
    let low = c.loop-site.auto.site in
    let W = c.with.ensures.place ∙ placed_last c.loop-site.site c.args.chosen (λ x m. let b = c.requires.below x m in omega (arith, b, low)) in
    next_site c.args.sites c.args.chosen c.args.from c.loop-site.site (c.args.count - 1) c.with.result c.args.losses.now.items c.loop-site.losses.items c.add_losses.new.losses.items low W c.loop-site.invariant c.in_ok-add_losses.ensures

pub returns : goal.returns
returns t c =
    let some = c.if-count-eq0.false in
    let n : c.args.count ≡ suc (c.args.count - 1) = omega (arith, some) in
    let low = c.loop-site.auto.site in
    let high = c.loop-site.auto.site-end in
    let start = c.requires.high in
    let done = c.loop-site-test.false in
    let end : c.loop-site.site ≡ c.args.sites + 1 = omega (arith, low, high start, done) in
    all_sites c.args.sites c.args.chosen c.args.from c.loop-site.site (c.args.count - 1) c.args.count c.args.losses.now.items c.loop-site.losses.items n end c.loop-site.invariant
