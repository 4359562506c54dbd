-- Parts of plans that compare as equal are equal.
use Rattle.std.proofs.Common.{◌≡◌, ℕ, List, Option, Some, None, true, nat_eq, eqb-true, eq-eqb, refl, ap}
use Rattle.std.specs.Option.{option_eq}
use lib.Pointwise.{pointwise, pointwise_decides}
use Rattle.cs_schema.proofs.Ascending.{false≢true}

pub same_numbers : (xs ys : List ℕ) → pointwise nat_eq xs ys ≡ true → xs ≡ ys
same_numbers xs ys e = (pointwise_decides (λ x y. (eqb-true x y, eq-eqb x y)) xs ys).0 e

pub numbers_same : (xs ys : List ℕ) → xs ≡ ys → pointwise nat_eq xs ys ≡ true
numbers_same xs ys e = (pointwise_decides (λ x y. (eqb-true x y, eq-eqb x y)) xs ys).1 e

option_decides : (x y : Option ℕ) → (option_eq nat_eq x y ≡ true → x ≡ y) × (x ≡ y → option_eq nat_eq x y ≡ true)
option_decides None None = (λ e. refl, λ e. refl)
option_decides None (Some y) = (λ e. false≢true e, λ e. absurd (cc e))
option_decides (Some x) None = (λ e. false≢true e, λ e. absurd (cc e))
option_decides (Some x) (Some y) = (λ e. ap Some (eqb-true x y e), λ e. eq-eqb x y (cc e))

pub same_options : (xs ys : List (Option ℕ)) → pointwise (option_eq nat_eq) xs ys ≡ true → xs ≡ ys
same_options xs ys e = (pointwise_decides option_decides xs ys).0 e

pub options_same : (xs ys : List (Option ℕ)) → xs ≡ ys → pointwise (option_eq nat_eq) xs ys ≡ true
options_same xs ys e = (pointwise_decides option_decides xs ys).1 e
