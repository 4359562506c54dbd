-- What is known of a plan is known of each loss that has it.
use Rattle.std.proofs.Common.{◌≡◌, ◌∷◌, ◌++◌, [], List, Option, sym, ap, subst, ◌∙◌, inl, inr}
use Rattle.cs_schema.specs.CatalogData.{CatalogData}
use Rattle.cs_schema.specs.FileNames.{FileContents}
use Rattle.cs_schema.specs.Lists.{IsIn}
use Rattle.cs_schema.specs.Losses.{Sites}
use Rattle.cs_schema.specs.Rows.{Row}
use Rattle.cs_schema.proofs.Lists.{in_append}
use Rattle.cs_safety.specs.PlanData.{PlanData, IsPlan}
use Rattle.cs_safety.specs.Safety.{IsSafe}
use Rattle.cs_safety.specs.Within.{IsWithin}
use Rattle.cs_safety.proofs.OnePlan.{one_plan}
use Rattle.cs_rows.specs.Walk.{walked}
use Rattle.cs_recovery.specs.Holding.{HoldsSurvivors}
use Rattle.cs_recovery.specs.Verdicts.{IsWalkedBy}
use Rattle.cs_diagnosis.specs.Candidates.{AreWalkedAlike, IsWalkedLike}
use Rattle.cs_diagnosis.specs.declared.conflicts.Conflicts.{Conflicts}
use Rattle.cs_diagnosis.specs.Walks.{IsWalkOutcome, HasPlan, IsPlanned, IsPlanOutcome, AreWalks, IsRefuted}
use Rattle.cs_diagnosis.specs.declared.walks.Walks.{Walks}
use Rattle.cs_diagnosis.specs.declared.walks.WalkedPlan.{WalkedPlan}

module _ (C : CatalogData) (F : FileContents) (first L : Sites) (P : PlanData) (has : HasPlan C L P) where
  -- losses with the same plan have the same walk
  alike : (M : Sites) → IsPlan C M P → AreWalkedAlike C L M
  alike M other S w = subst (λ rule. IsWalkedBy rule C L S w → IsWalkedBy rule C M S w) (sym has.0) (λ x. (P, other, x.2 ∙ ap (walked C S) (one_plan C L x.0 P x.1 has.1)))

  like : (M : Sites) → IsPlanned C first P M → IsWalkedLike C first L M
  like M m = record { around = m.around; safe = m.safe; alike = alike M m.plan.1 }

  pub plan_outcome : (conflicts : Option Conflicts) → IsWalkOutcome C F first L conflicts → IsPlanOutcome C F first P conflicts
  plan_outcome conflicts outcome = record {
    held = λ M T m held. outcome.held M T (like M m) held;
    hit = λ M c m is hit. outcome.hit M c (like M m) is hit;
  }

pub refuted : (C : CatalogData) (F : FileContents) (first L : Sites) (w : Walks) → AreWalks C F first w → IsWithin first L → IsSafe C L → IsRefuted C L w → (T : List Row) → ¬ HoldsSurvivors C F L T
refuted C F first L w walks around safe r T held =
    let told = (walks r.walked r.kept).held L T (record { around = around; safe = safe; plan = r.plan }) held in
    r.missed told.0 told.1 told.2

-- one more plan
pub one_plan_more : (C : CatalogData) (F : FileContents) (first : Sites) (old new : Walks) (k : WalkedPlan) → new.plans.items ≡ old.plans.items ++ k ∷ [] → AreWalks C F first old → IsPlanOutcome C F first k.plan k.conflicts → AreWalks C F first new
one_plan_more C F first old new k more walks outcome m i = elim (in_append old.plans.items (k ∷ []) m (subst (IsIn m) more i)) [
  | inl before ↦ walks m before
  | inr last ↦ elim last [ inl same ↦ subst (λ x. IsPlanOutcome C F first x.plan x.conflicts) (sym same) outcome | inr none ↦ absurd none ]
]
