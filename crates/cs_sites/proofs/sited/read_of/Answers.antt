use Rattle.std.proofs.Common.{◌≡◌, ◌<◌, ◌-◌, None, length, slice_set, ap, arith, refl, ◌∙◌}
use Rattle.std.proofs.lemmas.List.{set-get_or}
use Rattle.cs_sites.specs.Routing.{source_at}
use Rattle.cs_sites.proofs.SourceLemmas.{source_here}
use Rattle.cs_sites.proofs.sited.read_of.Goals as goal

pub returns-in-None-clause-err : goal.returns-in-None-clause-err
returns-in-None-clause-err g c =
    let sources = c.args.sources.now.items in
    let at = c.saturating_sub-at.result in
    let place : at ≡ c.args.site - 1 = c.saturating_sub-at.ensures ∙ ap (λ n. n - 1) c.from.ensures in
    let within : at < length sources = omega arith in
    let away : source_at sources c.args.site ≡ None = source_here sources c.args.site at place c.index_mut.result.now within c.index_mut.ensures.value ∙ c.in-None.is in
    rw away (refl, ap (slice_set sources at) c.index_mut.ensures.value ∙ set-get_or sources at c.index_mut.result.now)
