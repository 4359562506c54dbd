-- What is known while losses are tried.
use Rattle.std.specs.Prelude.{◌≡◌, ℕ, ◌<◌, ◌++◌, ◌∷◌, List, [], length, Some}
use Rattle.std.specs.List.{slice_get}
use Rattle.cs_schema.specs.CatalogData.{CatalogData}
use Rattle.cs_schema.specs.FileNames.{FileContents}
use Rattle.cs_schema.specs.Lists.{IsIn}
use Rattle.cs_schema.specs.Losses.{Sites}
use Rattle.cs_diagnosis.specs.Candidates.{AreConflictsOf}
use Rattle.cs_diagnosis.specs.Conflicts.{AreAllHit}
use Rattle.cs_diagnosis.specs.declared.conflicts.Conflicts.{Conflicts}
use Rattle.cs_diagnosis.specs.declared.search.Findings.{Findings}
use Rattle.cs_diagnosis.specs.Diagnoses.{rows_found}
use Rattle.cs_diagnosis.specs.Walks.{AreWalks}
use Rattle.cs_diagnosis.specs.declared.known.Known.{Known}
use Rattle.cs_diagnosis.specs.declared.tables.FoundTable.{FoundTable}
use Rattle.cs_diagnosis.specs.declared.walks.WalkedPlan.{WalkedPlan}
use Rattle.cs_diagnosis.specs.declared.walks.Walks.{Walks}

-- Each plan is walked once, and a second time only if it then leads to a table that is accepted; never a third time.
pub record AreWalkedOnce (walks : Walks) (known : List Conflicts) : Type 0 where
  pub again : (i j : ℕ) (a b : WalkedPlan) → i < j → slice_get walks.plans.items i ≡ Some a → slice_get walks.plans.items j ≡ Some b → a.plan ≡ b.plan → (c : Conflicts) × (b.conflicts ≡ Some c) × IsIn c known
  pub twice : (i j k : ℕ) (a b d : WalkedPlan) → i < j → j < k → slice_get walks.plans.items i ≡ Some a → slice_get walks.plans.items j ≡ Some b → slice_get walks.plans.items k ≡ Some d → a.plan ≡ b.plan → ¬ (b.plan ≡ d.plan)

-- the conflicts of each table that was found, and the results of plans
pub record IsKnown (C : CatalogData) (F : FileContents) (first : Sites) (tables : List FoundTable) (known : Known) : Type 0 where
  pub count : length known.conflicts.items ≡ length tables
  pub each : (n : ℕ) (t : FoundTable) (c : Conflicts) → slice_get tables n ≡ Some t → slice_get known.conflicts.items n ≡ Some c → AreConflictsOf C F first (rows_found t) c
  pub walks : AreWalks C F first known.walks
  pub once : AreWalkedOnce known.walks known.conflicts.items

-- the loss misses a conflict of each table that was found
abbrev pub NoneIsHit : List Conflicts → Sites → Type 0
NoneIsHit conflicts L = (n : ℕ) (c : Conflicts) → slice_get conflicts n ≡ Some c → ¬ AreAllHit c L

-- a table was added with its conflicts, and a loss that explains the store by it
pub record IsKeptTable (L : Sites) (table : FoundTable) (conflicts : Conflicts) (old new : Findings FoundTable) (before now : Known) : Type 0 where
  pub tables : new.tables.items ≡ old.tables.items ++ table ∷ []
  pub conflicts_too : now.conflicts.items ≡ before.conflicts.items ++ conflicts ∷ []
  pub explanations : new.explanations.items ≡ old.explanations.items ++ (record { loss = L; table = length old.tables.items }) ∷ []
  pub walks : now.walks ≡ before.walks
