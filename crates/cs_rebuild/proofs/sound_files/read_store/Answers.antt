use Rattle.std.proofs.Common.{Option, Result, inl, inr, subst}
use Rattle.std.specs.Prelude.{IfOk, IfErr}
use Rattle.std.specs.declared.alloc.AllocError.{AllocError}
use Rattle.rayon.proofs.ListFacts.{IfOk-then}
use Rattle.cs_store.specs.Fault.{MemoryOr}
use Rattle.cs_store.specs.FileSet.{contents_of}
use Rattle.cs_schema.specs.declared.file_name.FileName.{FileName}
use Rattle.cs_rebuild.specs.Reading.{AreDigests, resealed}
use Rattle.cs_rebuild.specs.Steps.{AreRead, IsBadFile}
use Rattle.cs_rebuild.proofs.Answered.{read_sound, read_under}
use Rattle.cs_rebuild.proofs.LeastBad.{read_as_sealed, sealed_bad}
use Rattle.cs_rebuild.proofs.Verdicts.{bad_file, memory_or, on_error}
use Rattle.cs_rebuild.proofs.sound_files.read_store.Goals as goal

pub returns-in-Ok-clause-ok : goal.returns-in-Ok-clause-ok
returns-in-Ok-clause-ok g c =
    let C = c.args.catalog.now in
    let F = contents_of c.args.files.now in
    let L = c.args.loss in
    let beside = c.read_beside-unsealed in
    let right = subst (λ (x : Result (Option FileName) AllocError). IfOk x (AreDigests C L F)) c.in-Ok.ensures.ok.1 beside.ensures.digests in
    let read = subst (λ r. IfOk r (AreRead C (resealed F) L)) c.in-Ok.ensures.ok.0 beside.ensures.ok in
    read_under C (resealed F) F L c.in-Ok.survivors (read_as_sealed C c.projection_count-rules.ensures.rules F L right) read

pub returns-in-Err-clause-bad : goal.returns-in-Err-clause-bad
returns-in-Err-clause-bad g c =
    let C = c.args.catalog.now in
    let F = contents_of c.args.files.now in
    let L = c.args.loss in
    let beside = c.read_beside-unsealed in
    let sound = IfOk-then beside.result.1 _ _ beside.ensures.ok (λ v read. read_sound C c.projection_count-rules.ensures.rules (resealed F) L v read) in
    elim c.in-Err.ensures.err [
      | inl own ↦
          let right = subst (λ (x : Result (Option FileName) AllocError). IfOk x (AreDigests C L F)) own.1 beside.ensures.digests in
          memory_or c.in-Err.fault (subst (λ r. IfErr r (λ f. MemoryOr f (IsBadFile C (resealed F) L f))) own.0 beside.ensures.bad) (sealed_bad C c.projection_count-rules.ensures.rules F L right c.in-Err.fault)
      | inr all ↦ all C L F c.projection_count-rules.ensures.rules beside.ensures.digests sound (on_error beside.result.1 _ _ beside.ensures.bad (λ f bad. memory_or f bad (bad_file C (resealed F) L f)))
    ]

pub returns-in-Err-clause-err : goal.returns-in-Err-clause-err
returns-in-Err-clause-err g c = memory_or c.in-Err.fault (returns-in-Err-clause-bad g c) (bad_file c.args.catalog.now (contents_of c.args.files.now) c.args.loss c.in-Err.fault)
