use Rattle.std.proofs.Common.{◌≡◌, ◌*◌, ◌≤◌, length, arith, subst}
use Rattle.std.proofs.Math.Nat.{mul-add}
use Rattle.cs_rebuild.specs.SegmentEncoder.{column_count}
use Rattle.cs_rebuild.proofs.segment_encoder.SegmentEncoder.size.Goals as goal

pub loop-j-preserved : goal.loop-j-preserved
loop-j-preserved c =
    let more = mul-add (265 * length c.args.self.now.numbers.now) c.loop-j.j 1 in
    omega (arith, c.loop-j.invariant, c.saturating_add-size.ensures, c.column_size-more.ensures, more)

pub returns : goal.returns
returns c =
    let all : c.loop-j.j ≡ column_count c.args.self.now = omega (arith, c.loop-j-test.false, c.loop-j.auto.j-end, c.width-j-end.ensures.count) in
    subst (λ n. c.loop-j.size ≤ 265 * length c.args.self.now.numbers.now * n) all c.loop-j.invariant
