use Rattle.std.proofs.Common.{arith, rules, ◌+◌, ℕ, get_or, refl}
use Rattle.std.proofs.lemmas.List.{get_or_default}
use Rattle.cs_codec.proofs.PaintLemmas.{paints_more, total-taken}
use Rattle.cs_codec.proofs.bitmap_reading.paint.Goals as goal
use Rattle.cs_codec.proofs.bitmap_reading.paint.Goals.{then-ones, else-ones}

pub returns-then-count-len-clause-too_long : goal.returns-then-count-len-clause-too_long
returns-then-count-len-clause-too_long c = λ said.
    let n : ℕ = get_or c.args.lengths.now c.loop-length.length-index 0 in
    let far = c.loop-length.invariant.painted in
    let place = far.position_is in
    let size = far.painted.size in
    let within = c.loop-length.invariant.within in
    omega (arith, place, size, within, total-taken c.args.lengths.now c.loop-length.length-index n c.loop-length-test.true (get_or_default c.args.lengths.now c.loop-length.length-index 0 n c.loop-length-test.true))

pub loop-length-preserved : goal.loop-length-preserved
loop-length-preserved c =
    let n : ℕ = get_or c.args.lengths.now c.loop-length.length-index 0 in
    let within = c.loop-length.invariant.within in
    elim c.if-ones.branch [
      | then-ones w ↦ record {
        painted = paints_more c.args.number c.args.lengths.now c.loop-length.length-index n c.loop-length.position (c.loop-length.position + n) c.loop-length.ones c.args.numbers.now.items c.loop-length.numbers.items c.if-ones.numbers.items c.loop-length-test.true (get_or_default c.args.lengths.now c.loop-length.length-index 0 n c.loop-length-test.true) c.loop-length.invariant.painted refl (λ e. search rules) (λ e. absurd (search rules));
        within = let size = w.paint_run.ensures.size in search rules;
      }
      | else-ones w ↦ record {
        painted = paints_more c.args.number c.args.lengths.now c.loop-length.length-index n c.loop-length.position (c.loop-length.position + n) c.loop-length.ones c.args.numbers.now.items c.loop-length.numbers.items c.if-ones.numbers.items c.loop-length-test.true (get_or_default c.args.lengths.now c.loop-length.length-index 0 n c.loop-length-test.true) c.loop-length.invariant.painted refl (λ e. absurd (search rules)) (λ e. search rules);
        within = search rules;
      }
    ]
