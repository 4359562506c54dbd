use Rattle.std.proofs.Common.{◌≡◌, ◌<◌, length, take, get_or, refl, ◌∙◌, arith}
use Rattle.std.proofs.Math.Seq.{take-length}
use Rattle.std.proofs.lemmas.List.{length-set}
use Rattle.cs_order.proofs.Filling.{there_more, others_more}
use Rattle.cs_order.proofs.places.write_segment.Goals as goal

pub loop-index-preserved : goal.loop-index-preserved
loop-index-preserved c =
    let here : get_or c.args.rows.now c.loop-index.index 0 < length c.loop-index.places = rw c.loop-index.invariant.long (c.requires.within c.loop-index.index 0 c.loop-index-test.true) in
    let few : c.loop-index.index < 1048576 = omega (arith, c.requires.few, c.loop-index-test.true) in
    record {
      there = there_more c.args.rows.now c.loop-index.places c.args.places.now c.args.s c.loop-index.index c.loop-index-test.true few _ refl here c.loop-index.invariant.there;
      others = others_more c.args.rows.now c.loop-index.places c.args.places.now c.args.s c.loop-index.index c.loop-index-test.true few _ refl here c.loop-index.invariant.others;
      long = length-set c.loop-index.places _ _ ∙ c.loop-index.invariant.long;
    }

pub returns-clause-there : goal.returns-clause-there
returns-clause-there c r h =
    let n : c.loop-index.index ≡ length c.args.rows.now = omega arith in
    let all : take c.loop-index.index c.args.rows.now ≡ c.args.rows.now = rw n (take-length c.args.rows.now) in
    c.loop-index.invariant.there r (rw all h)
