-- How many sites may fail, by the greatest number of which any may.
use Rattle.std.proofs.Common.{◌≡◌, ℕ, ◌+◌, ◌<◌, ◌≤◌, List, [], ◌∷◌, length, slice_get, Option, Some, None, refl, subst, arith}
use Rattle.std.specs.List.Sorted.{IsStrictlySortedBy}
use Rattle.cs_schema.proofs.Ascending.{false≢true}
use Rattle.cs_schema.specs.CatalogData.{CatalogData}
use Rattle.cs_schema.specs.Losses.{Sites, IsLoss}
use Rattle.cs_safety.specs.Safety.{IsSafe}
use Rattle.cs_design.specs.Fatal.{IsSafeBeyond, IsFatalAt, IsGreatestK, AreFatalLosses}
use Rattle.cs_checking.specs.Checks.{HasFatal, IsFirstFatal}

-- as many as may fail, or fewer
pub safe_below : (C : CatalogData) (lost : Sites) (g k : ℕ) → IsSafeBeyond C lost g → k ≤ g → IsSafeBeyond C lost k
safe_below C lost g k safe below = λ L loss few. let few' : length L ≤ g = omega arith in safe L loss few'

-- one more than may fail, or more still
pub fatal_above : (C : CatalogData) (g k : ℕ) → IsFatalAt C [] (g + 1) → g < k → HasFatal C k
fatal_above C g k (L, fatal, count) above = let few : length L ≤ k = omega (arith, count) in (L, fatal, few)

-- the loss of no site names sites of each catalog
no_loss : (C : CatalogData) → IsLoss C []
unfolding IsStrictlySortedBy
no_loss C = (tt, λ x h. false≢true h)

-- no number may fail where the loss of no site is unsafe
pub fatal_already : (C : CatalogData) (k : ℕ) → ¬ IsSafe C [] → HasFatal C k
fatal_already C k bad = ([], record { loss = no_loss C; is_unsafe = bad }, omega arith)

-- each catalog has a fatal loss
pub has_fatal : (C : CatalogData) (greatest : Option ℕ) → IsGreatestK C [] greatest → (k : ℕ) × HasFatal C k
has_fatal C None bad = (0, fatal_already C 0 bad)
has_fatal C (Some g) is = (g + 1, fatal_above C g (g + 1) is.1 (omega arith))

-- where some loss is fatal, the least fatal ones are some
pub some_fatal : (C : CatalogData) (k : ℕ) (fatal : List Sites) → HasFatal C k → AreFatalLosses C [] fatal → fatal ≡ [] → ⊥
some_fatal C k [] (L, is, few) all none = let (M, there, within) = (all.exact L is.loss).0 is.is_unsafe in absurd there
some_fatal C k (M ∷ Ms) is all none = cc

-- a list without a first element is empty
pub none_first : {X : Type 0} (xs : List X) → slice_get xs 0 ≡ None → xs ≡ []
none_first [] e = refl
none_first (x ∷ xs) e = cc

-- the first of the least fatal losses
pub first_fatal : (C : CatalogData) (fatal : List Sites) (L : Sites) → AreFatalLosses C [] fatal → slice_get fatal 0 ≡ Some L → IsFirstFatal C L
first_fatal C [] L all e = absurd (cc)
first_fatal C (M ∷ Ms) L all e = let same : M ≡ L = cc in (Ms, subst (λ (K : Sites). AreFatalLosses C [] (K ∷ Ms)) same all)
