use Rattle.std.proofs.Common.{◌∙◌, ap, sym, Some}
use Rattle.std.proofs.lemmas.Option.{same_Some}
use Rattle.rayon.proofs.ListFacts.{IfOk-then}
use Rattle.cs_store.specs.FileSet.{contents_of}
use Rattle.cs_rebuild.proofs.Answered.{answered}
use Rattle.cs_rebuild.proofs.answering.answer.Goals as goal

pub returns : goal.returns
returns g c F held =
    let both = c.requires.held in
    let shared = both.2 ∙ ap Some (same_Some both.0 F (sym both.1 ∙ held)) in
    let beside = c.answer_beside-unsealed in
    answered c.args.catalog.now c.projection_count-rules.ensures.rules (contents_of F) c.args.loss c.args.wanted beside.result.0 beside.result.1 c.unless_bad.result
    (IfOk-then beside.result.0 _ _ beside.ensures.digests (λ unsealed h. h F held)) (beside.ensures.answer F shared) c.unless_bad.ensures.ok c.unless_bad.ensures.err
