use Rattle.std.proofs.Common.{◌≡◌, ◌∙◌, sym, subst}
use Rattle.std.proofs.lemmas.Option.{same_Some}
use Rattle.rayon.proofs.ListFacts.{IfOk-then}
use Rattle.cs_store.specs.FileSet.{Files, contents_of}
use Rattle.cs_rebuild.specs.Reading.{AreDigests}
use Rattle.cs_rebuild.proofs.answering.compare_digests.Goals as goal

pub returns : goal.returns
returns g c =
    IfOk-then c.least_unsealed-unsealed.result _ _ c.least_unsealed-unsealed.ensures (λ unsealed h F held.
    let same : c.files.result.now ≡ F = same_Some c.files.result.now F (sym c.files.ensures ∙ held) in
    subst (λ (G : Files). AreDigests c.args.catalog.now c.args.loss (contents_of G) unsealed) same h)
