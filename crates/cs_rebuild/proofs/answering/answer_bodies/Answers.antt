use Rattle.std.proofs.Common.{◌≡◌, ◌∙◌, sym, subst}
use Rattle.std.proofs.lemmas.Option.{same_Some}
use Rattle.cs_store.specs.FileSet.{Files, contents_of}
use Rattle.cs_store.specs.Fault.{MemoryOr}
use Rattle.cs_rebuild.specs.Answers.{IsAnswer}
use Rattle.cs_rebuild.specs.Reading.{resealed}
use Rattle.cs_rebuild.specs.Steps.{IsBadFile}
use Rattle.cs_rebuild.proofs.Verdicts.{bad_file, memory_or}
use Rattle.cs_rebuild.proofs.answering.answer_bodies.Goals as goal

pub answer_survivors-requires-clause-read : goal.answer_survivors-requires-clause-read
answer_survivors-requires-clause-read g c κs within = (resealed (contents_of c.files.result.now), rw c.in-Ok.is at c.read_bodies-read.ensures.ok)

pub returns-in-Ok : goal.returns-in-Ok
returns-in-Ok g c F held =
    let same : c.files.result.now ≡ F = same_Some c.files.result.now F (sym c.files.ensures ∙ held) in
    subst (λ (G : Files). IsAnswer c.args.wanted c.args.catalog.now (resealed (contents_of G)) c.args.loss c.answer_survivors.result) same
    (c.answer_survivors.ensures (resealed (contents_of c.files.result.now)) (rw c.in-Ok.is at c.read_bodies-read.ensures.ok))

pub returns-in-Err : goal.returns-in-Err
returns-in-Err g c F held =
    let same : c.files.result.now ≡ F = same_Some c.files.result.now F (sym c.files.ensures ∙ held) in
    let bad = subst (λ (G : Files). MemoryOr c.in-Err.fault (IsBadFile c.args.catalog.now (resealed (contents_of G)) c.args.loss c.in-Err.fault)) same (rw c.in-Err.is at c.read_bodies-read.ensures.bad) in
    memory_or c.in-Err.fault bad (bad_file c.args.catalog.now (resealed (contents_of F)) c.args.loss c.in-Err.fault)
