use Rattle.std.proofs.Common.{◌≡◌, ◌∙◌, ap, refl, subst, ◌⊎◌, inl, inr, Ok, Err, Some, None, Option, Result}
use Rattle.std.specs.Prelude.{IfOk, IfErr}
use Rattle.std.specs.declared.alloc.AllocError.{AllocError}
use Rattle.cs_schema.specs.declared.file_name.FileName.{FileName}
use Rattle.cs_store.specs.Fault.{MemoryOr}
use Rattle.cs_recovery.specs.Verdicts.{IsVerdict}
use Rattle.cs_rebuild.specs.Reading.{AreDigests, resealed}
use Rattle.cs_rebuild.specs.Steps.{AreBodiesSound}
use Rattle.cs_rebuild.proofs.LeastBad.{digest_bad}
use Rattle.cs_rebuild.proofs.sound_files.unless_bad.Goals as goal

own : {X E : Type 0} (r : Result X E) (P : Type 0) → P → IfOk r (λ x. (r ≡ Ok x) × P)
own (Ok x) P p = (refl, p)
own (Err e) P p = tt

own_error : {X E : Type 0} (r : Result X E) (P : Type 0) (Q : E → Type 0) → P → IfErr r (λ e. ((r ≡ Err e) × P) ⊎ Q e)
own_error (Ok x) P Q p = tt
own_error (Err e) P Q p = inl (refl, p)

pub returns-in-None-clause-ok : goal.returns-in-None-clause-ok
returns-in-None-clause-ok g c = own c.args.found _ (c.in-Ok.is ∙ ap Ok c.in-None.is)

pub returns-in-None-clause-err : goal.returns-in-None-clause-err
returns-in-None-clause-err g c = own_error c.args.found _ _ (c.in-Ok.is ∙ ap Ok c.in-None.is)

pub returns-in-Err-clause-err : goal.returns-in-Err-clause-err
returns-in-Err-clause-err g c = inr (λ C L F cat digests sound bad. inl refl)

pub returns-in-Ok-found-clause-err : goal.returns-in-Ok-found-clause-err
returns-in-Ok-found-clause-err g c = inr (λ C L F cat digests sound bad.
    let is : c.args.unsealed ≡ Ok (Some c.in-Some.name) = c.in-Ok.is ∙ ap Ok c.in-Some.is in
    inr (digest_bad C cat F L c.in-Some.name (subst (λ x. IfOk x (AreDigests C L F)) is digests) (subst (λ r. IfOk r (λ _. AreBodiesSound C L F)) c.in-Ok-found.is sound)))

pub returns-in-Err-found-clause-err : goal.returns-in-Err-found-clause-err
returns-in-Err-found-clause-err g c = inr (λ C L F cat digests sound bad.
    let is : c.args.unsealed ≡ Ok (Some c.in-Some.name) = c.in-Ok.is ∙ ap Ok c.in-Some.is in
    c.lesser.ensures C L F cat (subst (λ x. IfOk x (AreDigests C L F)) is digests) (subst (λ r. IfErr r (λ f. MemoryOr f (IsVerdict C (resealed F) L (Err f)))) c.in-Err-found.is bad))
