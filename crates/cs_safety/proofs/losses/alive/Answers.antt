use Rattle.std.proofs.Common.{arith, sym}
use Rattle.cs_safety.proofs.AliveLemmas.{kept_alive}
use Rattle.cs_safety.proofs.losses.alive.Goals as goal

pub returns-clause-test : goal.returns-clause-test
returns-clause-test c =
    let count = c.segments-s-end.ensures.count in
    let done = c.loop-s-test.false in
    sym (kept_alive c.args.catalog.now c.segments-s-end.ensures.rules c.args.loss c.args.p c.requires (λ s l. c.loop-s.invariant s (omega (arith, l, count, done))))
