-- A diagnosis of a store's files.
use Rattle.std.specs.Prelude.{◌≡◌, ℕ, ◌+◌, ◌*◌, ◌≤◌, ◌⊎◌, ◌↔◌, List, length, Option, IsTrue}
use Rattle.cs_schema.specs.declared.file_name.FileName.{FileName}
use Rattle.cs_schema.specs.CatalogData.{CatalogData}
use Rattle.cs_schema.specs.FileNames.{FileContents}
use Rattle.cs_schema.specs.Lists.{member, IsIn}
use Rattle.cs_schema.specs.Losses.{Sites, IsLoss}
use Rattle.cs_schema.specs.Rows.{Row}
use Rattle.cs_safety.specs.Safety.{IsSafe, IsKSafe}
use Rattle.cs_safety.specs.Within.{IsWithin}
use Rattle.cs_recovery.specs.AcceptedLosses.{IsAcceptedLoss, AreChangedOn}
use Rattle.cs_recovery.specs.Columns.{rows_in}
use Rattle.cs_recovery.specs.Holding.{HoldsSurvivors}
use Rattle.cs_inspection.specs.BadFiles.{AreBadFiles}
use Rattle.cs_diagnosis.specs.declared.findings.Explanation.{Explanation}
use Rattle.cs_diagnosis.specs.declared.findings.Verdict.{Verdict}
use Rattle.cs_diagnosis.specs.Explanations.{AreForced}
use Rattle.cs_diagnosis.specs.Findings.{IsTableAt, AreExplanations, IsVerdict}
use Rattle.cs_diagnosis.specs.Laws.{IsTrueVerdict}
use Rattle.cs_diagnosis.specs.Forced.{IsBadSite}
use Rattle.cs_diagnosis.specs.Reach.{IsReach}
use Rattle.cs_diagnosis.specs.declared.tables.FoundTable.{FoundTable}
use Rattle.cs_diagnosis.specs.declared.diagnosing.Diagnosis.{Diagnosis}

-- the rows of a table that was found
abbrev pub rows_found : FoundTable → List Row
rows_found t = rows_in t.columns.items

-- Files held a table. The forced sites and at most m others were changed, in any way. The catalog is safe for every
-- loss of at most k sites, and the number of forced sites plus 2m is at most k.
pub record WereChanged (C : CatalogData) (F : FileContents) (forced : Sites) (m : ℕ) (T : List Row) : Type 0 where
  pub before : FileContents
  pub sites : Sites
  pub k : ℕ
  pub changed : AreChangedOn C before F sites T
  pub safe : IsKSafe C k
  pub few : length sites ≤ length forced + m
  pub fits : length forced + 2 * m ≤ k

-- A diagnosis, by losses of at most the number of sites that is asked for. It has the list of the bad files, their
-- sites, which every accepted loss contains, and every explanation with its table. Each safe loss that contains an
-- explanation is accepted with that table. The verdict is that of the explanations. If at most m sites besides the
-- forced ones were changed and losses of at most the forced sites and m more are tried, the verdict is the table that
-- the store held; if larger losses are tried, it is that table whenever only one table is found.
pub record IsDiagnosis (C : CatalogData) (F : FileContents) (unreadable : List FileName) (asked : Option ℕ) (d : Diagnosis) : Type 0 where
  pub list : AreBadFiles C F unreadable d.bad.items
  pub sites : (x : ℕ) → IsTrue (member d.forced x) ↔ IsBadSite C d.bad.items x
  pub forced : AreForced C (HoldsSurvivors C F) d.forced
  pub reach : IsReach C (length d.forced) asked d.reach
  pub explanations : AreExplanations C (HoldsSurvivors C F) d.reach.at_most rows_found d.explanations.items d.tables.items
  pub around : (e : Explanation) (T : List Row) (M : Sites) → IsIn e d.explanations.items → IsTableAt rows_found d.tables.items e.table T → IsWithin e.loss M → IsLoss C M → IsSafe C M → IsAcceptedLoss C F M T
  pub verdict : IsVerdict C (HoldsSurvivors C F) d.reach.at_most d.verdict
  pub tells : (m : ℕ) (T : List Row) → WereChanged C F d.forced m T → d.reach.at_most ≡ length d.forced + m → IsTrueVerdict C F d.reach.at_most T d.verdict
  pub certain : (m : ℕ) (T : List Row) → WereChanged C F d.forced m T → length d.forced + m ≤ d.reach.at_most → (d.verdict ≡ Verdict.Sound) ⊎ (d.verdict ≡ Verdict.OneTable) → IsTrueVerdict C F d.reach.at_most T d.verdict
