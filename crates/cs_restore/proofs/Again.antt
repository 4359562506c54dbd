-- A restore that stopped, asked for again.
use Rattle.std.proofs.Common.{◌≡◌, inl, inr, ⊎_elim, Ok, Err, Result, refl, ap, subst}
use Rattle.cs_schema.specs.CatalogData.{CatalogData}
use Rattle.cs_schema.specs.CatalogRules.{IsCatalog}
use Rattle.cs_schema.specs.Losses.{Sites}
use Rattle.cs_store.specs.FileSet.{Files, contents_of}
use Rattle.cs_store.specs.declared.fault.Fault.{Fault}
use Rattle.cs_store.specs.declared.fault.Fault.TheVariants as fault
use Rattle.cs_recovery.specs.AnswerLaws.{IsOrMemory}
use Rattle.cs_recovery.specs.Claims.{IsRebuildAnswer}
use Rattle.cs_recovery.proofs.OneAnswer.{one_answer}
use Rattle.cs_recovery.proofs.Restarts.{restarts}
use Rattle.cs_recovery.proofs.Read.{layers}
use Rattle.cs_restore.specs.Placing.{IsPartOf}
use Rattle.cs_restore.specs.Restoring.{IsOldOrPart, StoppedRestoresAgain}
use Rattle.cs_restore.proofs.Parts.{again}

abbrev Answer : Type 0
Answer = Result Files Fault

same_files : (a b : Files) → IsOrMemory (Ok b) (Ok a) → a ≡ b
same_files a b (inl same) = cc
same_files a b (inr memory) = absurd (cc)

-- `rebuild` answers one set of files
one_set : (C : CatalogData) → IsCatalog C → (L : Sites) (d a b : Files) → IsRebuildAnswer C (contents_of d) L (Ok a) → IsRebuildAnswer C (contents_of d) L (Ok b) → a ≡ b
one_set C cat L d a b x y = ⊎_elim (same_files a b) (λ memory. absurd (no_fault b memory)) (one_answer C cat (layers C cat) (contents_of d) (contents_of d) L (Ok a) (Ok b) (λ n survives. refl) x y)
  where
    no_fault : (b : Files) → (let r : Answer = Ok b in r) ≡ Err fault.Memory → ⊥
    no_fault b e = cc

as_part : (C : CatalogData) → IsCatalog C → (L : Sites) (d c out : Files) → IsRebuildAnswer C (contents_of d) L (Ok out) → IsOldOrPart C L d c → IsPartOf out d c
as_part C cat L d c out answer (inl same) = λ n. inl (ap (λ f. contents_of f n) same)
as_part C cat L d c out answer (inr part) = subst (λ o. IsPartOf o d c) (one_set C cat L d part.0 out part.1 answer) part.2

pub stopped_again : StoppedRestoresAgain
stopped_again C cat L d c out answer stopped =
    let part : IsPartOf out d c = as_part C cat L d c out answer stopped in
    let same = restarts C cat (layers C cat) (contents_of d) (contents_of c) L out answer (λ n survives. part n) in
    (same.0, same.1, λ n. again out d c n part)
