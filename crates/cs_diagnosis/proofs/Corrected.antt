-- How many changed sites can be corrected, given the maximum number of sites of which any may fail.
use Rattle.std.proofs.Common.{◌≡◌, ℕ, ◌+◌, ◌-◌, ◌/◌, ◌<◌, ◌≤◌, [], length, refl, arith, inl, inr, Some, None}
use Rattle.std.specs.List.Sorted.{IsStrictlySortedBy}
use Rattle.std.proofs.lemmas.Bool.{cases_lt}
use Rattle.std.specs.List.{range_with_len}
use Rattle.std.specs.Prelude.{Option, MatchOption}
use Rattle.std.proofs.lemmas.List.FromFn.{length-range_with_len}
use Rattle.cs_schema.specs.CatalogData.{CatalogData}
use Rattle.cs_schema.specs.CatalogRules.{IsCatalog}
use Rattle.cs_schema.specs.Losses.{Sites, IsLoss}
use Rattle.cs_schema.proofs.Ascending.{false≢true}
use Rattle.cs_schema.proofs.Lists.{in_member, member_in}
use Rattle.cs_safety.specs.Safety.{IsSafe, IsKSafe}
use Rattle.cs_safety.specs.Within.{IsWithin}
use Rattle.cs_safety.proofs.WithinSafe.{safe_within}
use Rattle.cs_design.specs.Fatal.{either, IsSafeBeyond, IsFatalAt}
use Rattle.cs_safety.proofs.LossTails.{tail_loss}
use Rattle.cs_design.proofs.SmallerLosses.{within_size}
use Rattle.cs_design.proofs.Tails.{all_sites_tail, in_all_sites, all_lost_is_unsafe}
use Rattle.cs_design.proofs.Unions.{either_in, second_within}
use Rattle.cs_diagnosis.specs.Reach.{IsCorrected, IsGreatestCorrected, IsReach}

no_loss : (C : CatalogData) → IsLoss C []
unfolding IsStrictlySortedBy
no_loss C = (tt, λ x h. false≢true h)

module _ (C : CatalogData) where
  none_first : (L : Sites) → IsWithin (either [] L) L
  none_first L x m = in_member L x (either_in [] L x (member_in (either [] L) x m))

  pub k_safe : (k : ℕ) → IsSafeBeyond C [] k → IsKSafe C k
  k_safe k safe L loss few = safe_within L (either [] L) (second_within [] L) C C.safety (safe L loss few)

  not_above : (k j : ℕ) → IsFatalAt C [] (k + 1) → IsKSafe C j → k < j → ⊥
  not_above k j (L, fatal, count) safe above =
      let few : length L ≤ j = omega (arith, count) in
      fatal.is_unsafe (safe_within (either [] L) L (none_first L) C C.safety (safe L fatal.loss few))

  module _ (k forced : ℕ) (safe : IsSafeBeyond C [] k) (fatal : IsFatalAt C [] (k + 1)) where
    pub corrected : forced ≤ k → IsCorrected C forced ((k - forced) / 2)
    corrected h = record { k = k; safe = k_safe k safe; fits = omega arith }

    at_most_k : (n : ℕ) (d : IsCorrected C forced n) → d.k ≤ k
    at_most_k n d = elim (cases_lt k d.k) [ inl l ↦ absurd (not_above k d.k fatal d.safe l) | inr l ↦ l ]

    pub greatest : (n : ℕ) → IsCorrected C forced n → n ≤ (k - forced) / 2
    greatest n d = omega (arith, at_most_k n d, d.fits)

    pub none_above : k < forced → (n : ℕ) → ¬ IsCorrected C forced n
    none_above h n d = absurd (omega (arith, at_most_k n d, d.fits))

  pub none_unsafe : (forced : ℕ) → ¬ IsSafe C [] → (n : ℕ) → ¬ IsCorrected C forced n
  none_unsafe forced bad n d = bad (d.safe [] (no_loss C) (omega arith))

-- ---- k is less than the number of sites

pub some_may_not_fail : (C : CatalogData) → IsCatalog C → (k : ℕ) → IsKSafe C k → k < C.sites
some_may_not_fail C cat k safe = elim (cases_lt k C.sites) [
  | inl l ↦ l
  | inr h ↦
      (let size = length-range_with_len 1 C.sites in
      let all_safe = safe (range_with_len 1 C.sites) (tail_loss C C.sites (range_with_len 1 C.sites) (all_sites_tail C)) (omega (arith, h, size)) in
      absurd (all_lost_is_unsafe C cat (range_with_len 1 C.sites) (in_all_sites C) all_safe))
]

pub few_sites : (C : CatalogData) → IsCatalog C → (L : Sites) → IsLoss C L → length L ≤ 16
few_sites C cat L loss =
    let within = within_size L (range_with_len 1 C.sites) loss.0 (all_sites_tail C).in_order (λ x m. in_all_sites C x (loss.1 x m).0 (loss.1 x m).1) in
    omega (arith, within, length-range_with_len 1 C.sites, cat.site_range.1)

-- ---- the reach

module _ (C : CatalogData) (forced : ℕ) (asked : Option ℕ) (at_most : ℕ) (few : at_most ≤ 16) (asked_for : (n : ℕ) → asked ≡ Some n → at_most ≡ n) where
  pub reached : (most : ℕ) (certain : Option ℕ) → IsGreatestCorrected C forced (Some most) → (asked ≡ None → (1 ≤ at_most) × (forced + most ≤ at_most))
      → (asked ≡ None → (n : ℕ) → 1 ≤ n → forced + most ≤ n → at_most ≤ n)
      → MatchOption certain (at_most < forced) (λ m. (m ≤ most) × (forced + m ≤ at_most) × ((n : ℕ) → n ≤ most → forced + n ≤ at_most → n ≤ m))
      → IsReach C forced asked (record { at_most = at_most; certain = certain })
  reached most None g far near below = record {
    few = few;
    asked_for = asked_for;
    far_enough = λ e. record { one = (far e).0; all_forced = omega (arith, far e); corrects = λ n d. omega (arith, far e, g.1 n d) };
    least = λ e n enough. near e n enough.one (enough.corrects most g.0);
    certain = tt;
    greatest = λ n d h. absurd (omega (arith, below, h));
  }
  reached most (Some m) g far near by = record {
    few = few;
    asked_for = asked_for;
    far_enough = λ e. record { one = (far e).0; all_forced = omega (arith, far e); corrects = λ n d. omega (arith, far e, g.1 n d) };
    least = λ e n enough. near e n enough.one (enough.corrects most g.0);
    certain = (record { k = g.0.k; safe = g.0.safe; fits = omega (arith, g.0.fits, by.0) }, by.1);
    greatest = λ n d h. (m, refl, by.2 n (g.1 n d) h);
  }

  pub unreached : IsGreatestCorrected C forced None → (asked ≡ None → (1 ≤ at_most) × (forced + 0 ≤ at_most)) → (asked ≡ None → (n : ℕ) → 1 ≤ n → forced + 0 ≤ n → at_most ≤ n)
      → IsReach C forced asked (record { at_most = at_most; certain = None })
  unreached g far near = record {
    few = few;
    asked_for = asked_for;
    far_enough = λ e. record { one = (far e).0; all_forced = omega (arith, far e); corrects = λ n d. absurd (g n d) };
    least = λ e n enough. near e n enough.one (omega (arith, enough.all_forced));
    certain = tt;
    greatest = λ n d h. absurd (g n d);
  }
