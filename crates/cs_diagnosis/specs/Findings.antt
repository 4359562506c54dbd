-- What a diagnosis finds: all explanations of at most a number of sites, and what they amount to.
use Rattle.std.specs.Prelude.{◌≡◌, ℕ, ◌≤◌, List, [], length, Some}
use Rattle.std.specs.List.{slice_get}
use Rattle.std.specs.List.Sorted.{IsStrictlySortedBy}
use Rattle.cs_schema.specs.Lists.{IsIn}
use Rattle.cs_schema.specs.CatalogData.{CatalogData}
use Rattle.cs_schema.specs.Losses.{Sites, loss_cmp}
use Rattle.cs_schema.specs.Rows.{Row}
use Rattle.cs_diagnosis.specs.declared.findings.Explanation.{Explanation}
use Rattle.cs_diagnosis.specs.declared.findings.Verdict.{Verdict}
use Rattle.cs_safety.specs.Within.{IsWithin}
use Rattle.cs_diagnosis.specs.Explanations.{IsAccepted, IsLeastAccepted}

-- the n-th of the tables is T
abbrev pub IsTableAt : {X : Type 0} → (X → List Row) → List X → ℕ → List Row → Type 0
IsTableAt {X} rows tables n T = (t : X) × (slice_get tables n ≡ Some t) × (rows t ≡ T)

-- the loss contains one of the explanations
abbrev pub IsExplained : List Explanation → Sites → Type 0
IsExplained found L = (e : Explanation) × IsIn e found × IsWithin e.loss L

-- the loss is one of the explanations
abbrev pub IsFound : List Explanation → Sites → Type 0
IsFound found L = (e : Explanation) × IsIn e found × IsWithin e.loss L × IsWithin L e.loss

-- All explanations of at most `at_most` sites, in the order of losses, each with the index of its table. No table is
-- listed twice.
pub record AreExplanations {X : Type 0} (C : CatalogData) (held : Sites → List Row → Type 0) (at_most : ℕ) (rows : X → List Row) (found : List Explanation) (tables : List X) : Type 0 where
  pub each : (e : Explanation) → IsIn e found → (length e.loss ≤ at_most) × ((T : List Row) × IsTableAt rows tables e.table T × IsLeastAccepted C held e.loss T)
  pub all : (L : Sites) (T : List Row) → IsLeastAccepted C held L T → length L ≤ at_most → (e : Explanation) × IsIn e found × (e.loss ≡ L)
  pub complete : (L : Sites) (T : List Row) → IsAccepted C held L T → length L ≤ at_most → IsExplained found L
  pub in_order : IsStrictlySortedBy (λ e f. loss_cmp e.loss f.loss) found
  pub apart : (m n : ℕ) (T : List Row) → IsTableAt rows tables m T → IsTableAt rows tables n T → m ≡ n
  pub used : (n : ℕ) (T : List Row) → IsTableAt rows tables n T → (e : Explanation) × IsIn e found × (e.table ≡ n)

-- What the explanations of at most `at_most` sites amount to.
pub data IsVerdict (C : CatalogData) (held : Sites → List Row → Type 0) (at_most : ℕ) (v : Verdict) : Type 0 where
  sound : (T : List Row) → IsAccepted C held [] T → v ≡ Verdict.Sound → IsVerdict C held at_most v
  one_table : (L : Sites) (T : List Row) → ((U : List Row) → ¬ IsAccepted C held [] U) → IsLeastAccepted C held L T → length L ≤ at_most
      → ((M : Sites) (U : List Row) → IsAccepted C held M U → length M ≤ at_most → U ≡ T) → v ≡ Verdict.OneTable → IsVerdict C held at_most v
  ambiguous : (L M : Sites) (T U : List Row) → IsLeastAccepted C held L T → IsLeastAccepted C held M U → length L ≤ at_most → length M ≤ at_most → (T ≡ U → ⊥) → v ≡ Verdict.Ambiguous → IsVerdict C held at_most v
  not_recoverable : ((L : Sites) (T : List Row) → IsAccepted C held L T → length L ≤ at_most → ⊥) → v ≡ Verdict.NotRecoverable → IsVerdict C held at_most v
