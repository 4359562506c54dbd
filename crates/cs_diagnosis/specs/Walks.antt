-- What is known of plans that were walked.
use Rattle.std.specs.Prelude.{◌≡◌, ◌⊎◌, ◌++◌, ◌∷◌, [], List, Option, Some}
use Rattle.cs_schema.specs.CatalogData.{CatalogData}
use Rattle.cs_schema.specs.FileNames.{FileContents}
use Rattle.cs_schema.specs.Lists.{IsIn}
use Rattle.cs_schema.specs.Losses.{Sites}
use Rattle.cs_schema.specs.Rows.{Row}
use Rattle.cs_schema.specs.declared.kinds.Safety.{Safety}
use Rattle.cs_safety.specs.PlanData.{PlanData, IsPlan}
use Rattle.cs_safety.specs.Safety.{IsSafe}
use Rattle.cs_safety.specs.Within.{IsWithin}
use Rattle.cs_recovery.specs.Holding.{HoldsSurvivors}
use Rattle.cs_diagnosis.specs.Candidates.{IsWalkedLike}
use Rattle.cs_diagnosis.specs.Conflicts.{AreAllHit}
use Rattle.cs_diagnosis.specs.declared.conflicts.Conflicts.{Conflicts}
use Rattle.cs_diagnosis.specs.declared.walks.Walks.{Walks}
use Rattle.cs_diagnosis.specs.declared.walks.WalkedPlan.{WalkedPlan}

-- of the losses with the same walk as this one, exactly those leave a table that contain a site of each of its
-- conflicts
pub record IsWalkOutcome (C : CatalogData) (F : FileContents) (first L : Sites) (conflicts : Option Conflicts) : Type 0 where
  pub held : (M : Sites) (T : List Row) → IsWalkedLike C first L M → HoldsSurvivors C F M T → (c : Conflicts) × (conflicts ≡ Some c) × AreAllHit c M
  pub hit : (M : Sites) (c : Conflicts) → IsWalkedLike C first L M → conflicts ≡ Some c → AreAllHit c M → (T : List Row) × HoldsSurvivors C F M T

-- the plan by which a loss is walked, if the catalog's safety is that of whole projections
abbrev pub HasPlan : CatalogData → Sites → PlanData → Type 0
HasPlan C L P = (C.safety ≡ Safety.Whole) × IsPlan C L P

-- a safe loss that contains a first one and is walked by this plan
pub record IsPlanned (C : CatalogData) (first : Sites) (P : PlanData) (M : Sites) : Type 0 where
  pub around : IsWithin first M
  pub safe : IsSafe C M
  pub plan : HasPlan C M P

-- of the losses that are walked by this plan, exactly those leave a table that contain a site of each of its conflicts
pub record IsPlanOutcome (C : CatalogData) (F : FileContents) (first : Sites) (P : PlanData) (conflicts : Option Conflicts) : Type 0 where
  pub held : (M : Sites) (T : List Row) → IsPlanned C first P M → HoldsSurvivors C F M T → (c : Conflicts) × (conflicts ≡ Some c) × AreAllHit c M
  pub hit : (M : Sites) (c : Conflicts) → IsPlanned C first P M → conflicts ≡ Some c → AreAllHit c M → (T : List Row) × HoldsSurvivors C F M T

-- the result that is stored for each plan is true of it
abbrev pub AreWalks : CatalogData → FileContents → Sites → Walks → Type 0
AreWalks C F first w = (k : WalkedPlan) → IsIn k w.plans.items → IsPlanOutcome C F first k.plan k.conflicts

-- the plan of the loss was stored too, with its result; or the loss has no plan
abbrev pub IsPlanKept : CatalogData → Sites → Option Conflicts → Walks → Walks → Type 0
IsPlanKept C L conflicts old new =
    ((P : PlanData) × HasPlan C L P × (new.plans.items ≡ old.plans.items ++ (record { plan = P; conflicts = conflicts }) ∷ []))
    ⊎ (((P : PlanData) → ¬ HasPlan C L P) × (new.plans.items ≡ old.plans.items))

-- the plan of the loss was walked, and led to no table, or to one with a conflict that the loss misses
pub record IsRefuted (C : CatalogData) (L : Sites) (w : Walks) : Type 0 where
  pub walked : WalkedPlan
  pub kept : IsIn walked w.plans.items
  pub plan : HasPlan C L walked.plan
  pub missed : (c : Conflicts) → walked.conflicts ≡ Some c → ¬ AreAllHit c L
