-- Tests over the numbers below a bound.
use Rattle.std.proofs.Common.{◌≡◌, ℕ, zero, suc, ◌<◌, ◌||◌, ◌&&◌, Bool, true, false, sym, ap, subst, ◌∙◌, refl, arith, ◌⊎◌, inl, inr}
use Rattle.cs_schema.proofs.Ascending.{false≢true}
use Rattle.cs_safety.specs.NumberSets.{some_below}

pub or_cases : (a b : Bool) → (a || b) ≡ true → (a ≡ true) ⊎ (b ≡ true)
or_cases true b e = inl refl
or_cases false b e = inr e

pub or_left : (a b : Bool) → a ≡ true → (a || b) ≡ true
or_left a b e = ap (λ c. c || b) e

pub or_right : (a b : Bool) → b ≡ true → (a || b) ≡ true
or_right true b e = refl
or_right false b e = e

pub and_both : (a b : Bool) → a ≡ true → b ≡ true → (a && b) ≡ true
and_both a b e f = ap (λ c. c && b) e ∙ f

pub and_first : (a b : Bool) → (a && b) ≡ true → a ≡ true
and_first true b e = refl
and_first false b e = e

pub and_second : (a b : Bool) → (a && b) ≡ true → b ≡ true
and_second true b e = e
and_second false b e = false≢true e

pub decide : (b : Bool) → (b ≡ true) ⊎ (b ≡ false)
decide true = inl refl
decide false = inr refl

pub some_at : (n : ℕ) (p : ℕ → Bool) → some_below n p ≡ true → (r : ℕ) × (r < n) × (p r ≡ true)
some_at zero p e = false≢true e
some_at (suc n) p e = go (or_cases (some_below n p) (p n) e) (λ f. some_at n p f)
  where
    go : (some_below n p ≡ true) ⊎ (p n ≡ true) → (some_below n p ≡ true → (r : ℕ) × (r < n) × (p r ≡ true)) → (r : ℕ) × (r < suc n) × (p r ≡ true)
    go (inl f) k = let s = k f in let h : s.0 < n = s.1 in (s.0, omega arith, s.2)
    go (inr f) k = (n, omega arith, f)

pub some_from : (n : ℕ) (p : ℕ → Bool) (r : ℕ) → r < n → p r ≡ true → some_below n p ≡ true
some_from zero p r h e = absurd (omega arith)
some_from (suc n) p r h e = go (decide (some_below n p)) (λ k. some_from n p r k e)
  where
    go : (some_below n p ≡ true) ⊎ (some_below n p ≡ false) → (r < n → some_below n p ≡ true) → (some_below n p || p n) ≡ true
    go (inl f) k = or_left (some_below n p) (p n) f
    go (inr f) k =
        let same : r ≡ n = last (λ l. false≢true (sym f ∙ k l)) in
        or_right (some_below n p) (p n) (subst (λ m. p m ≡ true) same e)
      where
        last : (r < n → ⊥) → r ≡ n
        last f = omega (arith, f)
