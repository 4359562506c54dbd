use Rattle.std.proofs.Common.{◌+◌, ◌^◌, length, arith}
use Rattle.std.proofs.Math.Nat.{mod-le}
use Rattle.cs_schema.proofs.Blocks.{size_at_more}
use Rattle.cs_schema.proofs.texts.Texts.size_at.Goals as goal

pub loop-place-preserved : goal.loop-place-preserved
loop-place-preserved c =
    let more = size_at_more c.args.self.now c.args.places.now c.loop-place.place-index c.get.result.now (omega arith) c.get.ensures.value in
    let low = mod-le (c.loop-place.size + length c.get.result.now) (2 ^ 64) in
    omega (arith, more, low, c.loop-place.invariant)
