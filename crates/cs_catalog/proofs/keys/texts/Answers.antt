use Rattle.std.proofs.Common.{sym}
use Rattle.toml.specs.Data.{as_str}
use Rattle.toml.specs.View.{view}
use Rattle.cs_catalog.proofs.Reading.{read_more, read_stops}
use Rattle.std.proofs.lemmas.List.{map-append}
use Rattle.cs_catalog.proofs.keys.texts.Goals as goal

pub returns-in-None-clause-unread : goal.returns-in-None-clause-unread
returns-in-None-clause-unread c _ =
    (c.requires, read_stops view as_str c.args.values.now c.loop-value.value-index c.value-item.result c.loop-value-test.true c.value-item.is (sym c.in-None.ensures))

pub loop-value-preserved : goal.loop-value-preserved
loop-value-preserved c =
    let more = read_more view as_str c.args.values.now c.loop-value.value-index c.value-item.result _ c.in-Some.text.now c.loop-value-test.true c.value-item.is (sym c.in-Some.ensures) c.loop-value.invariant in
    rw (c.in_ok-push-in-Some.ensures.items, map-append) more
