use Rattle.std.proofs.Common.{arith, ◌≡◌, cond, get_or, ℕ, refl}
use Rattle.std.proofs.lemmas.List.{get_or_default}
use Rattle.cs_codec.proofs.BitmapCounts.{ones_first}
use Rattle.cs_codec.proofs.bitmap_reading.count_ones.Goals as goal
use Rattle.cs_codec.proofs.bitmap_reading.count_ones.Goals.{then-ones+else-length-limit, else-ones}

pub loop-length-preserved : goal.loop-length-preserved
loop-length-preserved c =
    let lengths = c.args.lengths.now in
    let i = c.loop-length.length-index in
    let n : ℕ = get_or lengths i 0 in
    let step = ones_first c.loop-length.ones lengths i n c.loop-length-test.true (get_or_default lengths i 0 n c.loop-length-test.true) in
    let counted = c.loop-length.invariant.counted in
    let few = c.loop-length.invariant.few in
    elim c.if-ones.branch [
      | then-ones+else-length-limit w ↦
          let flag : cond c.loop-length.ones n 0 ≡ n = rw w.if-ones.true refl in
          record { counted = omega (arith, w.count-is, step, counted, flag); few = omega (arith, w.count-is, w.if-length-limit.false, few) }
      | else-ones w ↦
          let flag : cond c.loop-length.ones n 0 ≡ 0 = rw w.if-ones.false refl in
          record { counted = omega (arith, w.count-is, step, counted, flag); few = omega (arith, w.count-is, few) }
    ]
