use Rattle.std.proofs.Common.{arith}
use Rattle.std.specs.FinMap.{len-entries}
use Rattle.cs_drill.proofs.standing.first_other.Goals as goal

pub returns : goal.returns
returns c = λ i file low at.
    let count = c.len-i-end.ensures.count in
    let length_is = len-entries c.args.rebuilt.now in
    let past = c.loop-i-test.false in
    c.loop-i.invariant i file (omega (arith, low, count, length_is, past)) at
