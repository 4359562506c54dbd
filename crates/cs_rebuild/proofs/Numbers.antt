-- Equal and unequal numbers, and equivalent tests.
use Rattle.std.proofs.Common.{◌≡◌, ◌≢◌, ℕ, refl, sym, ◌∙◌, Bool, true, false, not, ◌==◌, eqb-true, eq-eqb}
use Rattle.cs_schema.proofs.Ascending.{false≢true}

-- two numbers are equal or not
pub by_equal : {X : Type 0} (x y : ℕ) → (x ≡ y → X) → (x ≢ y → X) → X
by_equal {X} x y f g = go (x == y) refl
  where
    go : (b : Bool) → (x == y) ≡ b → X
    go true e = f (eqb-true x y e)
    go false e = g (λ k. false≢true (sym e ∙ eq-eqb x y k))

pub differ : (x y : ℕ) → x ≢ y → (x == y) ≡ false
differ x y n = go (x == y) refl
  where
    go : (b : Bool) → (x == y) ≡ b → b ≡ false
    go true e = absurd (n (eqb-true x y e))
    go false e = refl

-- equivalent tests
pub decided : (b t : Bool) → (b ≡ true → t ≡ true) → (t ≡ true → b ≡ true) → b ≡ not (not t)
decided true true f g = refl
decided true false f g = sym (f refl)
decided false true f g = g refl
decided false false f g = refl

pub same_test : (b t : Bool) → (b ≡ true → t ≡ true) → (t ≡ true → b ≡ true) → b ≡ t
same_test true true f g = refl
same_test true false f g = sym (f refl)
same_test false true f g = g refl
same_test false false f g = refl
