-- The sites of a loss that takes each site but one, as it grows.
use Rattle.std.proofs.Common.{◌≡◌, ◌==◌, ◌||◌, ◌&&◌, ◌+◌, ◌<◌, ◌≤◌, inl, inr, ℕ, Bool, true, false, not, List, [], arith, sym, ap, refl, ◌∙◌}
use Rattle.std.proofs.lemmas.Bool.{ne_eqb}
use Rattle.std.proofs.lemmas.Bool.Decides.{eqb_tells}
use Rattle.cs_schema.specs.Lists.{member}

-- the sites below k are lost but for this one, and none from k on
pub record OthersBelow (lost : List ℕ) (site k : ℕ) : Type 0 where
  pub below : (s : ℕ) → 1 ≤ s → s < k → member lost s ≡ not (s == site)
  pub above : (s : ℕ) → k ≤ s → member lost s ≡ false

pub others_none : (site : ℕ) → OthersBelow [] site 1
others_none site = record { below = λ s low h. absurd (omega arith); above = λ s h. refl }

here : (b m : Bool) → m ≡ false → ((not b && true) || m) ≡ not b
here true m none = none
here false m none = refl

elsewhere : (b m : Bool) → ((not b && false) || m) ≡ m
elsewhere true m = refl
elsewhere false m = refl

pub others_more : (lost next : List ℕ) (site k : ℕ) → OthersBelow lost site k
    → ((s : ℕ) → member next s ≡ ((not (k == site) && s == k) || member lost s)) → OthersBelow next site (k + 1)
others_more lost next site k so_far members = record {
  below = λ s low h. elim (eqb_tells s k) [
    | inl same ↦ members s ∙ ap (λ b. (not (k == site) && b) || member lost s) same.0 ∙ here (k == site) (member lost s) (so_far.above s (omega (arith, same.1))) ∙ ap (λ n. not (n == site)) (sym same.1)
    | inr apart ↦ members s ∙ ap (λ b. (not (k == site) && b) || member lost s) apart.0 ∙ elsewhere (k == site) (member lost s) ∙ so_far.below s low (omega (arith, apart.1))
  ];
  above = λ s h. members s ∙ ap (λ b. (not (k == site) && b) || member lost s) (ne_eqb s k (λ e. omega (arith, e, h))) ∙ elsewhere (k == site) (member lost s) ∙ so_far.above s (omega arith);
}
