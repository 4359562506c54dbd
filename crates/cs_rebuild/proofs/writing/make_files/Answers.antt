use Rattle.std.proofs.Common.{subst, ◌∙◌}
use Rattle.std.specs.Prelude.{IfOk}
use Rattle.std.specs.List.{AllZip}
use Rattle.std.proofs.Crossing.{crosses}
use denote.Param.Send.{sendable}
use Rattle.rayon.specs.Lists.{vec_items}
use Rattle.rayon.proofs.ListFacts.{IfOk-then}
use Rattle.cs_rows.proofs.Collected.{zipped_as}
use Rattle.cs_rebuild.specs.FilesToWrite.{IsFileOf}
use Rattle.cs_rebuild.proofs.FilesToWrite.{each_there, each_written, files_named, texts_made}
use Rattle.cs_rebuild.proofs.writing.make_files.Goals as goal

pub collect-requires-clause-ready : goal.collect-requires-clause-ready
collect-requires-clause-ready g c κs within =
    rw (c.map.ensures.base, c.map.ensures.f, c.with_min_len.ensures.base, c.into_par_iter.ensures)
    (λ k d lt. ((each_written c.args.store.now.catalog.now c.args.store.now.loss c.args.joins c.in_ok-names.names.items c.in_ok-names.ensures k d lt, (c.requires, (search (sendable, crosses) depth 40, search (sendable, crosses) depth 40))), λ y p. tt))

pub returns : goal.returns
returns g c =
    let names = c.in_ok-names.names.items in
    let IsFile = IsFileOf c.args.store.now in
    let h = c.in_ok-collect.ensures in
    let shown = rw c.map.ensures.base at h.1.1 ∙ (λ i. vec_items (c.with_min_len.ensures.base i)) ∙ c.into_par_iter.ensures in
    let zipped = zipped_as (λ a r. IfOk r (IsFile a)) h.1.0 h.0 h.1.2 (λ a r made. rw c.map.ensures.f at made) in
    let made =
    each_there IsFile (λ made. made.items) names h.0 c.in_ok-collect.field-0
    (subst (λ froms. AllZip (λ a r. IfOk r (IsFile a)) froms h.0) shown zipped) h.2 in
    IfOk-then c.in_ok-collect.field-0 _ _ made (λ files zipped. record { named = files_named c.args.store.now names files.items zipped ∙ c.in_ok-names.ensures; texts = texts_made c.args.store.now names files.items zipped })
