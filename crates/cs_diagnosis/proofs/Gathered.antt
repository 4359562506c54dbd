-- Conflicts by site, gathered one pair after the other.
use Rattle.std.proofs.Common.{◌≡◌, ℕ, zero, suc, ◌+◌, ◌-◌, ◌<◌, ◌≤◌, List, [], ◌∷◌, refl, sym, ap, subst, ◌∙◌, inl, inr, ◌⊎◌, Some, Bool, true, false, ◌==◌, ◌||◌, eqb-true, eq-eqb, arith, slice_set}
use Rattle.std.specs.Prelude.{IsTrue, ◌↔◌}
use Rattle.std.specs.List.{slice_get}
use Rattle.std.proofs.lemmas.Bool.{cases_lt}
use Rattle.std.proofs.lemmas.Option.{same_Some, none-some}
use Rattle.cs_schema.specs.Lists.{member}
use Rattle.cs_schema.specs.Losses.{Sites, IsSites}
use Rattle.cs_schema.proofs.Ascending.{false≢true}
use Rattle.cs_diagnosis.specs.Pairs.{IsHit}
use Rattle.cs_diagnosis.proofs.JoinEntries.{within_more}

set_same : {X : Type 0} (xs : List X) (i : ℕ) (x a : X) → slice_get xs i ≡ Some x → slice_get (slice_set xs i a) i ≡ Some a
set_same [] i x a e = absurd (none-some x e)
set_same (y ∷ xs) zero x a e = refl
set_same (y ∷ xs) (suc i) x a e = set_same xs i x a e

set_other : {X : Type 0} (xs : List X) (i n : ℕ) (a : X) → (n ≡ i → ⊥) → slice_get (slice_set xs i a) n ≡ slice_get xs n
set_other [] i n a other = refl
set_other (x ∷ xs) zero zero a other = absurd (other refl)
set_other (x ∷ xs) zero (suc n) a other = refl
set_other (x ∷ xs) (suc i) zero a other = refl
set_other (x ∷ xs) (suc i) (suc n) a other = set_other xs i n a (λ e. other (ap suc e))

module _ (L : Sites) where
  -- a loss contains one of two sites
  abbrev pub HasOne : ℕ → ℕ → Type 0
  HasOne x y = IsTrue (member L x) ⊎ IsTrue (member L y)

  abbrev pub AllHit : List Sites → Type 0
  AllHit sets = (n : ℕ) (others : Sites) → slice_get sets n ≡ Some others → IsHit L (n + 1, others)

  pub swapped : (x y : ℕ) → HasOne x y → HasOne y x
  swapped x y (inl a) = inr a
  swapped x y (inr b) = inl b

  -- ---- one more pair

  module _ (sets : List Sites) (x y : ℕ) (K more : Sites) (low : 1 ≤ x) (at : slice_get sets (x - 1) ≡ Some K) (members : (s : ℕ) → member more s ≡ (s == y || member K s)) where
    split : IsHit L (x, more) → IsHit L (x, K) × HasOne x y
    split (inl here) = (inl here, inl here)
    split (inr within) = let both = (within_more L K more y members).0 within in (inr both.0, inr both.1)

    together : IsHit L (x, K) → HasOne x y → IsHit L (x, more)
    together (inl here) one = inl here
    together (inr within) (inl here) = inl here
    together (inr within) (inr other) = inr ((within_more L K more y members).1 (within, other))

    next : (n : ℕ) → n ≡ x - 1 → n + 1 ≡ x
    next n e = omega (arith, e, low)

    pub pair_more : AllHit (slice_set sets (x - 1) more) ↔ (AllHit sets × HasOne x y)
    pair_more = (λ hit. (λ n others e. each hit n others e (n == x - 1) refl, (split (new hit)).1), λ both n others e. all both.0 both.1 n others e (n == x - 1) refl)
      where
        new : AllHit (slice_set sets (x - 1) more) → IsHit L (x, more)
        new hit = subst (λ z. IsHit L (z, more)) (next (x - 1) refl) (hit (x - 1) more (set_same sets (x - 1) K more at))

        each : AllHit (slice_set sets (x - 1) more) → (n : ℕ) (others : Sites) → slice_get sets n ≡ Some others → (b : Bool) → (n == x - 1) ≡ b → IsHit L (n + 1, others)
        each hit n others e true same =
            let here = eqb-true n (x - 1) same in
            subst (λ o. IsHit L (n + 1, o)) (same_Some K others (sym at ∙ ap (slice_get sets) (sym here) ∙ e)) (subst (λ z. IsHit L (z, K)) (sym (next n here)) (split (new hit)).0)
        each hit n others e false other = hit n others (set_other sets (x - 1) n more (λ same. false≢true (sym other ∙ eq-eqb n (x - 1) same)) ∙ e)

        all : AllHit sets → HasOne x y → (n : ℕ) (others : Sites) → slice_get (slice_set sets (x - 1) more) n ≡ Some others → (b : Bool) → (n == x - 1) ≡ b → IsHit L (n + 1, others)
        all hit one n others e true same =
            let here = eqb-true n (x - 1) same in
            subst (λ o. IsHit L (n + 1, o)) (same_Some more others (sym (set_same sets (x - 1) K more at) ∙ ap (slice_get (slice_set sets (x - 1) more)) (sym here) ∙ e))
            (subst (λ z. IsHit L (z, more)) (sym (next n here)) (together (subst (λ z. IsHit L (z, K)) (next (x - 1) refl) (hit (x - 1) K at)) one))
        all hit one n others e false other = hit n others (sym (set_other sets (x - 1) n more (λ same. false≢true (sym other ∙ eq-eqb n (x - 1) same))) ∙ e)

  -- ---- the pairs of one file

  -- the loss contains a site of each pair with one of the other sites below a number
  abbrev pub PairsBelow : ℕ → Sites → ℕ → Type 0
  PairsBelow site others top = (y : ℕ) → y < top → IsTrue (member others y) → HasOne site y

  pub pairs_more : (site : ℕ) (others : Sites) (top : ℕ) → (IsTrue (member others top) → HasOne site top) → PairsBelow site others top → PairsBelow site others (top + 1)
  pairs_more site others top one pairs y l m = elim (cases_lt y top) [
    | inl before ↦ pairs y before m
    | inr past ↦ (let same : top ≡ y = omega (arith, l, past) in subst (HasOne site) same (one (subst (λ z. IsTrue (member others z)) (sym same) m)))
  ]

  pub pairs_less : (site : ℕ) (others : Sites) (top : ℕ) → PairsBelow site others (top + 1) → PairsBelow site others top × (IsTrue (member others top) → HasOne site top)
  pairs_less site others top pairs = (λ y l m. pairs y (omega (arith, l)) m, λ m. pairs top (omega arith) m)

  pub pairs_hit : (site : ℕ) (others : Sites) → IsSites others → (top : ℕ) → 17 ≤ top → PairsBelow site others top ↔ IsHit L (site, others)
  pairs_hit site others sites top past = (λ pairs. go pairs (member L site) refl, λ hit y l m. one hit y m)
    where
      go : PairsBelow site others top → (b : Bool) → member L site ≡ b → IsHit L (site, others)
      go pairs true here = inl here
      go pairs false gone = inr (λ y m. elim (pairs y (let most = (sites.1 y m).1 in omega (arith, most, past)) m) [ inl here ↦ false≢true (sym gone ∙ here) | inr other ↦ other ])

      one : IsHit L (site, others) → (y : ℕ) → IsTrue (member others y) → HasOne site y
      one (inl here) y m = inl here
      one (inr within) y m = inr (within y m)
