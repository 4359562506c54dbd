-- Laws about explanations; each is the contract of a function of src/laws.rt.
use Rattle.std.specs.Prelude.{◌≡◌, ℕ, ◌+◌, ◌*◌, ◌≤◌, List, [], length}
use Rattle.cs_schema.specs.CatalogData.{CatalogData}
use Rattle.cs_schema.specs.CatalogRules.{IsCatalog}
use Rattle.cs_schema.specs.FileNames.{FileContents}
use Rattle.cs_schema.specs.Losses.{Sites, IsLoss}
use Rattle.cs_schema.specs.Rows.{Row}
use Rattle.cs_safety.specs.Safety.{IsKSafe}
use Rattle.cs_safety.specs.Within.{IsWithin}
use Rattle.cs_recovery.specs.AcceptedLosses.{IsAcceptedLoss, AreChangedOn}
use Rattle.cs_recovery.specs.Holding.{HoldsSurvivors}
use Rattle.cs_diagnosis.specs.declared.findings.Verdict.{Verdict}
use Rattle.cs_diagnosis.specs.Explanations.{HaveOneTable, AcceptanceGrows, AreForced}
use Rattle.cs_diagnosis.specs.Findings.{IsVerdict}

-- what survives a loss holds at most one table, and a safe loss that contains an accepted one is accepted with its
-- table
abbrev pub AcceptedLossesGrow : Type 0
AcceptedLossesGrow = (C : CatalogData) → IsCatalog C → (F : FileContents) → HaveOneTable C (HoldsSurvivors C F) × AcceptanceGrows C (HoldsSurvivors C F)

-- The verdict gives this table and no other: a sound store, or one table.
pub data IsTrueVerdict (C : CatalogData) (F : FileContents) (at_most : ℕ) (T : List Row) (v : Verdict) : Type 0 where
  sound : IsAcceptedLoss C F [] T → v ≡ Verdict.Sound → IsTrueVerdict C F at_most T v
  one_table : ((L : Sites) (U : List Row) → IsAcceptedLoss C F L U → length L ≤ at_most → U ≡ T) → v ≡ Verdict.OneTable → IsTrueVerdict C F at_most T v

-- Files held a table. The forced sites and at most m others were changed, in any way. If the catalog is safe for every
-- loss of at most k sites, and the number of forced sites plus 2m is at most k, the verdict gives the table.
abbrev pub ChangedSitesAreDiagnosed : Type 0
ChangedSitesAreDiagnosed =
    (C : CatalogData) → IsCatalog C → (F G : FileContents) (forced B : Sites) (k m : ℕ) (T : List Row)
    → IsKSafe C k → AreChangedOn C F G B T → IsLoss C forced → AreForced C (HoldsSurvivors C G) forced → IsWithin forced B → length B ≤ length forced + m → length forced + 2 * m ≤ k
    → (v : Verdict) → IsVerdict C (HoldsSurvivors C G) (length forced + m) v → IsTrueVerdict C G (length forced + m) T v
