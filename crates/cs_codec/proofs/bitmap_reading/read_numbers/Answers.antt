use Rattle.std.proofs.Common.{arith}
use Rattle.std.proofs.lemmas.List.{length_push}
use Rattle.cs_codec.proofs.NumberReading.{numbers_more, numbers_none}
use Rattle.cs_codec.proofs.bitmap_reading.read_numbers.Goals as goal

pub returns-in_default : goal.returns-in_default
returns-in_default c = let size = c.loop.invariant.size in numbers_none c.args.bytes.now c.args.at c.loop.end c.args.count c.loop.numbers.items c.loop.invariant.far (omega (arith, size)) c.in_default.ensures.none

pub loop-preserved : goal.loop-preserved
loop-preserved c =
    let size = c.loop.invariant.size in
    rw c.in_ok-push.ensures.items (record {
      far = numbers_more c.args.bytes.now c.args.at c.loop.end c.args.count c.in-Some.number c.loop.numbers.items c.loop.invariant.far (omega (arith, size)) c.in-Some.ensures.found;
      size = omega (arith, size, length_push c.loop.numbers.items c.in-Some.number);
    })
