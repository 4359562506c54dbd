-- Accepted losses grow and leave one table each, so the table is found after sites were changed.
use Rattle.std.proofs.Common.{◌≡◌, ℕ, ◌+◌, ◌*◌, ◌≤◌, List, [], length, sym, subst, ◌∙◌, arith}
use Rattle.cs_schema.specs.CatalogData.{CatalogData}
use Rattle.cs_schema.specs.CatalogRules.{IsCatalog}
use Rattle.cs_schema.specs.FileNames.{FileContents}
use Rattle.cs_schema.specs.Losses.{Sites, IsLoss}
use Rattle.cs_schema.specs.Rows.{Row}
use Rattle.cs_safety.specs.Safety.{IsKSafe}
use Rattle.cs_safety.specs.Within.{IsWithin}
use Rattle.cs_recovery.specs.AcceptedLosses.{IsAcceptedLoss, AreChangedOn}
use Rattle.cs_recovery.specs.Holding.{HoldsSurvivors}
use Rattle.cs_recovery.proofs.ChangedSites.{acceptance_grows, changed_corrected}
use Rattle.cs_recovery.proofs.Read.{layers}
use Rattle.cs_diagnosis.specs.declared.findings.Verdict.{Verdict}
use Rattle.cs_diagnosis.specs.Explanations.{IsAccepted, AreForced}
use Rattle.cs_diagnosis.specs.Findings.{IsVerdict}
use Rattle.cs_diagnosis.specs.Laws.{AcceptedLossesGrow, ChangedSitesAreDiagnosed, IsTrueVerdict}

module _ (C : CatalogData) (F : FileContents) (L : Sites) (T : List Row) where
  pub as_accepted : IsAccepted C (HoldsSurvivors C F) L T → IsAcceptedLoss C F L T
  as_accepted a = record { loss = a.loss; safe = a.safe; holds = a.holds }

  pub as_searched : IsAcceptedLoss C F L T → IsAccepted C (HoldsSurvivors C F) L T
  as_searched a = record { loss = a.loss; safe = a.safe; holds = a.holds }

-- a loss contains itself, so the law of growth also shows that its table is the only one
pub grow : AcceptedLossesGrow
grow C cat F = (
  λ L T U a b. sym ((acceptance_grows C cat (layers C cat) F L L T (as_accepted C F L T a) (λ x m. m) a.loss a.safe).1 U (as_accepted C F L U b)),
  λ L M T a w loss safe. as_searched C F M T (acceptance_grows C cat (layers C cat) F L M T (as_accepted C F L T a) w loss safe).0,
)

module _ (C : CatalogData) (cat : IsCatalog C) (F G : FileContents) (forced B : Sites) (k m : ℕ) (T : List Row) (safe : IsKSafe C k) (change : AreChangedOn C F G B T) (known : IsLoss C forced) (af : AreForced C (HoldsSurvivors C G) forced)
    (w : IsWithin forced B) (few : length B ≤ length forced + m) (fits : length forced + 2 * m ≤ k) where
  told : IsAcceptedLoss C G B T × ((M : Sites) (U : List Row) → IsAcceptedLoss C G M U → IsWithin forced M → length M ≤ length forced + m → U ≡ T)
  told = (changed_corrected C cat (layers C cat) F G B T change).counted forced k m safe known w few fits

  only : (M : Sites) (U : List Row) → IsAcceptedLoss C G M U → length M ≤ length forced + m → U ≡ T
  only M U a size = told.1 M U a (af M U (as_searched C G M U a)) size

  tells : (v : Verdict) → IsVerdict C (HoldsSurvivors C G) (length forced + m) v → IsTrueVerdict C G (length forced + m) T v
  tells v (IsVerdict.sound U a e) = IsTrueVerdict.sound (subst (IsAcceptedLoss C G []) (only [] U (as_accepted C G [] U a) (omega arith)) (as_accepted C G [] U a)) e
  tells v (IsVerdict.one_table L U none l small one e) = IsTrueVerdict.one_table only e
  tells v (IsVerdict.ambiguous L M U V l r small small' apart e) =
      absurd (apart (only L U (as_accepted C G L U l.accepted) small ∙ sym (only M V (as_accepted C G M V r.accepted) small')))
  tells v (IsVerdict.not_recoverable none e) = absurd (none B T (as_searched C G B T told.0) few)

pub diagnosed : ChangedSitesAreDiagnosed
diagnosed C cat F G forced B k m T safe change known af w few fits v d = tells C cat F G forced B k m T safe change known af w few fits v d
