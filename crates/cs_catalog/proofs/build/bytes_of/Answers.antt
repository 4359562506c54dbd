use Rattle.std.proofs.Common.{to_z-of_z, arith, pos}
use Rattle.cs_schema.specs.Named.{byte_of}
use Rattle.cs_catalog.proofs.Mapped.{mapped_more}
use Rattle.cs_catalog.proofs.build.bytes_of.Goals as goal

pub loop-number-preserved : goal.loop-number-preserved
loop-number-preserved c =
    let more = mapped_more byte_of c.args.numbers.now c.loop-number.number-index (pos 0) c.loop-number.bytes.items c.loop-number-test.true c.loop-number.invariant in
    rw (c.in_ok-push.ensures.items, c.byte_of.ensures) (grind (arith, to_z-of_z, more))
