-- One step of the search.
use Rattle.std.specs.Prelude.{◌≡◌, ℕ, ◌++◌, ◌∷◌, List, [], length}
use Rattle.cs_schema.specs.Losses.{Sites}
use Rattle.cs_schema.specs.Rows.{Row}
use Rattle.cs_diagnosis.specs.declared.findings.Explanation.{Explanation}
use Rattle.cs_diagnosis.specs.declared.search.Findings.{Findings}
use Rattle.cs_schema.specs.CatalogData.{CatalogData}
use Rattle.cs_safety.specs.Safety.{IsSafe}
use Rattle.cs_safety.specs.Within.{IsWithin}
use Rattle.cs_diagnosis.specs.Findings.{IsTableAt, IsExplained}

-- a loss that leaves no table adds nothing; one that leaves a table is added, with the index of that table or with a
-- new one
pub data IsTried {X : Type 0} (held : List Row → Type 0) (rows : X → List Row) (L : Sites) (old new : Findings X) : Type 0 where
  none : ((T : List Row) → ¬ held T) → new.explanations.items ≡ old.explanations.items → new.tables.items ≡ old.tables.items → IsTried held rows L old new
  known : (n : ℕ) (T : List Row) → IsTableAt rows old.tables.items n T → held T
      → new.explanations.items ≡ old.explanations.items ++ (record { loss = L; table = n }) ∷ [] → new.tables.items ≡ old.tables.items → IsTried held rows L old new
  new_table : (t : X) → ((n : ℕ) (T : List Row) → IsTableAt rows old.tables.items n T → ¬ held T) → held (rows t)
      → new.explanations.items ≡ old.explanations.items ++ (record { loss = L; table = length old.tables.items }) ∷ [] → new.tables.items ≡ old.tables.items ++ t ∷ [] → IsTried held rows L old new

-- a loss that may be an explanation: it is safe, and contains the forced sites but no explanation that was found
pub record MayExplain (C : CatalogData) (forced : Sites) (found : List Explanation) (L : Sites) : Type 0 where
  pub holds_forced : IsWithin forced L
  pub unexplained : ¬ IsExplained found L
  pub safe : IsSafe C L

-- a loss that is no explanation: it lacks a forced site, contains an explanation that was found, or is not safe
pub data IsRuledOut (C : CatalogData) (forced : Sites) (found : List Explanation) (L : Sites) : Type 0 where
  not_forced : ¬ IsWithin forced L → IsRuledOut C forced found L
  explained : IsExplained found L → IsRuledOut C forced found L
  unsafe : ¬ IsSafe C L → IsRuledOut C forced found L
