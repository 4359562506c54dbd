-- The loss to restore, if one table explains a store, and what must not be lost beside it.
use Rattle.std.specs.Prelude.{◌≡◌, ◌≢◌, ◌⊎◌, List, [], ◌∷◌, Option, MatchOption}
use Rattle.cs_schema.specs.CatalogData.{CatalogData}
use Rattle.cs_schema.specs.Losses.{Sites}
use Rattle.cs_design.specs.Fatal.{AreFatalLosses}
use Rattle.cs_diagnosis.specs.declared.diagnosing.Diagnosis.{Diagnosis}
use Rattle.cs_diagnosis.specs.declared.findings.Explanation.{Explanation}
use Rattle.cs_diagnosis.specs.declared.findings.Verdict.TheVariants.{OneTable}

-- one table explains the store, and this is its first explanation
pub record IsFirstOfOne (d : Diagnosis) (L : Sites) : Type 0 where
  pub first : Explanation
  pub others : List Explanation
  pub verdict : d.verdict ≡ OneTable
  pub explanations : d.explanations.items ≡ first ∷ others
  pub loss : L ≡ first.loss

-- the loss to restore: the first explanation if one table explains the store, else none
abbrev pub IsOnlyLoss : Diagnosis → Option Sites → Type 0
IsOnlyLoss d loss = MatchOption loss ((d.verdict ≢ OneTable) ⊎ (d.explanations.items ≡ [])) (IsFirstOfOne d)

-- the least losses that are fatal beside the loss to restore; none without it
abbrev pub AreFatalBeside : CatalogData → Diagnosis → List Sites → Type 0
AreFatalBeside C d fatal = (loss : Option Sites) × IsOnlyLoss d loss × MatchOption loss (fatal ≡ []) (λ L. AreFatalLosses C L fatal)
