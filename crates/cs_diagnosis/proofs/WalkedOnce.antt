-- How often a plan is walked.
use Rattle.std.proofs.Common.{◌≡◌, ℕ, ◌<◌, ◌≤◌, ◌∷◌, ◌++◌, [], List, length, Option, Some, sym, ap, subst, ◌∙◌, inl, inr, ◌⊎◌, arith}
use Rattle.std.specs.List.{slice_get}
use Rattle.std.proofs.lemmas.Option.{same_Some, none-some, slice_get_within}
use Rattle.cs_schema.specs.CatalogData.{CatalogData}
use Rattle.cs_schema.specs.FileNames.{FileContents}
use Rattle.cs_schema.specs.Lists.{IsIn}
use Rattle.cs_schema.specs.Losses.{Sites}
use Rattle.cs_schema.specs.Rows.{Row}
use Rattle.cs_schema.proofs.Lists.{in_at, at_in}
use Rattle.cs_safety.specs.PlanData.{PlanData}
use Rattle.cs_safety.specs.Safety.{IsSafe}
use Rattle.cs_safety.specs.Within.{IsWithin}
use Rattle.cs_design.proofs.Items.{kept_or_last}
use Rattle.cs_recovery.specs.Holding.{HoldsSurvivors}
use Rattle.cs_diagnosis.specs.Conflicts.{AreAllHit}
use Rattle.cs_diagnosis.specs.declared.conflicts.Conflicts.{Conflicts}
use Rattle.cs_diagnosis.specs.Known.{AreWalkedOnce, NoneIsHit}
use Rattle.cs_diagnosis.specs.Walks.{HasPlan, AreWalks, IsPlanKept, IsRefuted}
use Rattle.cs_diagnosis.specs.declared.walks.Walks.{Walks}
use Rattle.cs_diagnosis.specs.declared.walks.WalkedPlan.{WalkedPlan}

-- what precedes the last item of a list is in the list without it
earlier : {X : Type 0} (xs : List X) (y : X) (i j : ℕ) (x : X) → i < j → j ≤ length xs → slice_get (xs ++ y ∷ []) i ≡ Some x → slice_get xs i ≡ Some x
earlier xs y i j x l most at = elim (kept_or_last xs y i x at) [
  | inl there ↦ there
  | inr last ↦ (let e = last.0 in absurd (omega (arith, l, most, e)))
]

pub none_walked : (walks : Walks) (known : List Conflicts) → walks.plans.items ≡ [] → AreWalkedOnce walks known
none_walked walks known none = record {
  again = λ i j a b l x y same. absurd (none-some a (ap (λ l. slice_get l i) (sym none) ∙ x));
  twice = λ i j k a b d l m x y z same. absurd (none-some a (ap (λ l. slice_get l i) (sym none) ∙ x));
}

module _ (old new : Walks) (before now : List Conflicts) (grown : (c : Conflicts) → IsIn c before → IsIn c now) (once : AreWalkedOnce old before) where
  pub same_walks : new.plans.items ≡ old.plans.items → AreWalkedOnce new now
  same_walks same = record {
    again = λ i j a b l x y alike. let r = once.again i j a b l (back i a x) (back j b y) alike in (r.0, r.1, grown r.0 r.2);
    twice = λ i j k a b d l m x y z. once.twice i j k a b d l m (back i a x) (back j b y) (back k d z);
  }
    where
      back : (i : ℕ) (a : WalkedPlan) → slice_get new.plans.items i ≡ Some a → slice_get old.plans.items i ≡ Some a
      back i a x = ap (λ l. slice_get l i) (sym same) ∙ x

  -- ---- one more walk

  module _ (C : CatalogData) (F : FileContents) (first L : Sites) (around : IsWithin first L) (safe : IsSafe C L) (walks : AreWalks C F first old) (unknown : NoneIsHit before L) (unrefuted : ¬ IsRefuted C L old) where
    -- a plan is walked again only if it leads to a table that the loss holds
    held_again : (a : WalkedPlan) (i : ℕ) → slice_get old.plans.items i ≡ Some a → HasPlan C L a.plan → ((T : List Row) → ¬ HoldsSurvivors C F L T) → ⊥
    held_again a i at plan none =
        let here = in_at old.plans.items i a at in
        unrefuted (record {
          walked = a;
          kept = here;
          plan = plan;
          missed = λ c is hit. let t = (walks a here).hit L c (record { around = around; safe = safe; plan = plan }) is hit in none t.0 t.1;
        })

    -- and if that table is not known
    known_once : (a : WalkedPlan) (i : ℕ) → slice_get old.plans.items i ≡ Some a → HasPlan C L a.plan → (c : Conflicts) → a.conflicts ≡ Some c → IsIn c before → ⊥
    known_once a i at plan c is among =
        let place = at_in before c among in
        unrefuted (record {
          walked = a;
          kept = in_at old.plans.items i a at;
          plan = plan;
          missed = λ d same hit. unknown place.0 c place.1 (subst (λ (k : Conflicts). AreAllHit k L) (same_Some d c (sym same ∙ is)) hit);
        })

    module _ (conflicts : Option Conflicts) (told : ((T : List Row) → ¬ HoldsSurvivors C F L T) ⊎ ((c : Conflicts) × (conflicts ≡ Some c) × IsIn c now)) where
      module _ (P : PlanData) (plan : HasPlan C L P) (more : new.plans.items ≡ old.plans.items ++ (record { plan = P; conflicts = conflicts }) ∷ []) where
        abbrev last : WalkedPlan
        last = record { plan = P; conflicts = conflicts }

        split : (i : ℕ) (a : WalkedPlan) → slice_get new.plans.items i ≡ Some a → (slice_get old.plans.items i ≡ Some a) ⊎ ((i ≡ length old.plans.items) × (a ≡ last))
        split i a at = kept_or_last old.plans.items last i a (ap (λ l. slice_get l i) (sym more) ∙ at)

        before_it : (i j : ℕ) (a : WalkedPlan) → i < j → j ≤ length old.plans.items → slice_get new.plans.items i ≡ Some a → slice_get old.plans.items i ≡ Some a
        before_it i j a l most at = earlier old.plans.items last i j a l most (ap (λ l. slice_get l i) (sym more) ∙ at)

        again_more : (i j : ℕ) (a b : WalkedPlan) → i < j → slice_get new.plans.items i ≡ Some a → slice_get new.plans.items j ≡ Some b → a.plan ≡ b.plan → (c : Conflicts) × (b.conflicts ≡ Some c) × IsIn c now
        again_more i j a b l x y alike = elim (split j b y) [
          | inl there ↦
              (let low = slice_get_within old.plans.items j b there in
              let r = once.again i j a b l (before_it i j a l (omega (arith, low)) x) there alike in
              (r.0, r.1, grown r.0 r.2))
          | inr end ↦
              (let e = end.0 in
              let planned = subst (HasPlan C L) (sym (alike ∙ ap (λ (k : WalkedPlan). k.plan) end.1)) plan in
              elim told [
                | inl none ↦ absurd (held_again a i (before_it i j a l (omega (arith, e)) x) planned none)
                | inr found ↦ (found.0, ap (λ (k : WalkedPlan). k.conflicts) end.1 ∙ found.1, found.2)
              ])
        ]

        twice_more : (i j k : ℕ) (a b d : WalkedPlan) → i < j → j < k → slice_get new.plans.items i ≡ Some a → slice_get new.plans.items j ≡ Some b → slice_get new.plans.items k ≡ Some d → a.plan ≡ b.plan → b.plan ≡ d.plan → ⊥
        twice_more i j k a b d l m x y z alike other = elim (split k d z) [
          | inl there ↦
              (let low = slice_get_within old.plans.items k d there in
              once.twice i j k a b d l m (before_it i j a l (omega (arith, low, m)) x) (before_it j k b m (omega (arith, low)) y) there alike other)
          | inr end ↦
              (let e = end.0 in
              let there = before_it j k b m (omega (arith, e)) y in
              let r = once.again i j a b l (before_it i j a l (omega (arith, e, m)) x) there alike in
              known_once b j there (subst (HasPlan C L) (sym (other ∙ ap (λ (w : WalkedPlan). w.plan) end.1)) plan) r.0 r.1 r.2)
        ]

      pub once_more : IsPlanKept C L conflicts old new → AreWalkedOnce new now
      once_more (inl kept) = record { again = again_more kept.0 kept.1 kept.2; twice = twice_more kept.0 kept.1 kept.2 }
      once_more (inr none) = same_walks none.1
