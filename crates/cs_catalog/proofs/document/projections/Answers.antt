use Rattle.std.specs.Prelude.{option_and_then}
use Rattle.std.proofs.lemmas.Result.{err_from_is_err_and}
use Rattle.toml.specs.Data.{as_table}
use Rattle.toml.specs.View.{view}
use Rattle.cs_catalog.specs.Tree.{projection_of}
use Rattle.cs_catalog.proofs.Reading.{read_more, read_stops}
use Rattle.cs_catalog.proofs.document.projections.Goals as goal

pub returns-in_err-entry-clause-unread : goal.returns-in_err-entry-clause-unread
returns-in_err-entry-clause-unread c =
    let p = err_from_is_err_and c.from_residual.result c.from_residual.ensures.1 in
    let stops = read_stops view (λ d. option_and_then projection_of (as_table d)) c.args.values.now c.loop-at.at c.index-values-at.result c.loop-at-test.true c.index-values-at.is in
    rw (p.1, p.2) (λ wanted. ((c.in_err-entry.ensures.unread wanted).0, stops (c.in_err-entry.ensures.unread wanted).1))

pub loop-at-preserved : goal.loop-at-preserved
loop-at-preserved c =
    let more = read_more view (λ d. option_and_then projection_of (as_table d)) c.args.values.now c.loop-at.at c.index-values-at.result _ c.in_ok-entry.entry c.loop-at-test.true c.index-values-at.is c.in_ok-entry.ensures.read c.loop-at.invariant in
    rw c.in_ok-push.ensures.items more
