use Rattle.std.proofs.Common.{sym, arith, to_z-of_z}
use Rattle.toml.specs.Data.{as_integer}
use Rattle.toml.specs.View.{view}
use Rattle.cs_catalog.proofs.Reading.{read_more, read_stops}
use Rattle.cs_catalog.proofs.keys.integers.Goals as goal

pub returns-in-None-clause-unread : goal.returns-in-None-clause-unread
returns-in-None-clause-unread c _ =
    (c.requires, read_stops view as_integer c.args.values.now c.loop-value.value-index c.value-item.result c.loop-value-test.true c.value-item.is (sym c.in-None.ensures))

pub loop-value-preserved : goal.loop-value-preserved
loop-value-preserved c =
    let more = read_more view as_integer c.args.values.now c.loop-value.value-index c.value-item.result _ c.in-Some.number c.loop-value-test.true c.value-item.is (sym c.in-Some.ensures) c.loop-value.invariant in
    rw c.in_ok-push-in-Some.ensures.items (grind (arith, to_z-of_z, more))
