use Rattle.std.proofs.Common.{subst, arith}
use Rattle.cs_safety.specs.LossSearch.{IsUnsafeTail}
use Rattle.cs_safety.proofs.LossTails.{first_unsafe_loss}
use Rattle.cs_safety.proofs.ksafety.ksafe.Goals as goal

pub returns-in-Some-clause-refused : goal.returns-in-Some-clause-refused
returns-in-Some-clause-refused c =
    let u = subst (λ V. IsUnsafeTail c.args.catalog.now V 1 c.loop-count.count c.in-Some.loss) c.none.ensures c.in-Some.ensures in
    (c.if-k-gt3.false, first_unsafe_loss c.args.catalog.now c.args.k c.loop-count.count c.in-Some.loss (let t = c.loop-count-test.true in omega (arith, t)) c.loop-count.invariant u)
