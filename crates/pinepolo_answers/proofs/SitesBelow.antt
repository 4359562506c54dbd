-- The sites of a loss that gets just those of which something holds, as it grows.
use Rattle.std.proofs.Common.{◌≡◌, ◌==◌, ◌||◌, ◌&&◌, ◌+◌, ◌<◌, ◌≤◌, ◌↔◌, inl, inr, ℕ, Bool, true, false, List, [], IsTrue, arith, sym, ap, subst, refl, ◌∙◌}
use Rattle.std.proofs.lemmas.Bool.{ne_eqb}
use Rattle.std.proofs.lemmas.Bool.Decides.{eqb_tells}
use Rattle.cs_schema.specs.Lists.{member}

-- of the sites below k just those of which it holds are lost, and none from k on
pub record SitesBelow (P : ℕ → Type 0) (lost : List ℕ) (k : ℕ) : Type 0 where
  pub below : (s : ℕ) → 1 ≤ s → s < k → IsTrue (member lost s) ↔ P s
  pub above : (s : ℕ) → k ≤ s → member lost s ≡ false

pub sites_none : (P : ℕ → Type 0) → SitesBelow P [] 1
sites_none P = record { below = λ s low h. absurd (omega arith); above = λ s h. refl }

here : (b m : Bool) → m ≡ false → ((b && true) || m) ≡ b
here true m none = refl
here false m none = none

elsewhere : (b m : Bool) → ((b && false) || m) ≡ m
elsewhere true m = refl
elsewhere false m = refl

pub sites_more : (P : ℕ → Type 0) (lost next : List ℕ) (k : ℕ) (adds : Bool) → SitesBelow P lost k → IsTrue adds ↔ P k
    → ((s : ℕ) → member next s ≡ ((adds && s == k) || member lost s)) → SitesBelow P next (k + 1)
sites_more P lost next k adds so_far is members = record {
  below = λ s low h. elim (eqb_tells s k) [
    | inl same ↦
        (let e : member next s ≡ adds = members s ∙ ap (λ b. (adds && b) || member lost s) same.0 ∙ here adds (member lost s) (so_far.above s (omega (arith, same.1))) in
        subst (λ b. IsTrue b ↔ P s) (sym e) (subst (λ x. IsTrue adds ↔ P x) (sym same.1) is))
    | inr apart ↦
        (let e : member next s ≡ member lost s = members s ∙ ap (λ b. (adds && b) || member lost s) apart.0 ∙ elsewhere adds (member lost s) in
        subst (λ b. IsTrue b ↔ P s) (sym e) (so_far.below s low (omega (arith, apart.1))))
  ];
  above = λ s h. members s ∙ ap (λ b. (adds && b) || member lost s) (ne_eqb s k (λ e. omega (arith, e, h))) ∙ elsewhere adds (member lost s) ∙ so_far.above s (omega arith);
}
