-- Whether texts ascend, from one text to the next.
use Rattle.std.proofs.Common.{◌≡◌, ℕ, zero, suc, ◌+◌, ◌<◌, ◌≤◌, ◌&&◌, true, false, List, [], ◌∷◌, length, map, drop, refl, sym, ap, arith}
use Rattle.std.specs.Prelude.{slice_get}
use Rattle.std.specs.Option.{option_cmp}
use Rattle.std.specs.Ordering.{nat_cmp, is_lt, is_ge}
use Rattle.std.specs.Cmp.Lexicographic.{slice_cmp}
use Rattle.std.specs.declared.cmp.Ordering.{Ordering}
use Rattle.std.specs.declared.cmp.Ordering.TheVariants.{Less, Equal, Greater}
use Rattle.cs_schema.specs.declared.cells.Value.{Value}
use Rattle.cs_schema.specs.Cuts.{ascends}

pub not_less : (o : Ordering) → is_ge o ≡ true → is_lt o ≡ false
not_less Less e = sym e
not_less Equal e = refl
not_less Greater e = refl

pub is_less : (o : Ordering) → is_ge o ≡ false → is_lt o ≡ true
is_less Less e = refl
is_less Equal e = sym e
is_less Greater e = sym e

-- from a place on texts ascend where the text there is below the next one, and they ascend from there on
pub ascend_from : (xs : List (List ℕ)) (k next : ℕ) (o : Ordering) → next ≡ k + 1 → next < length xs → o ≡ option_cmp (slice_cmp nat_cmp) (slice_get xs k) (slice_get xs next)
    → ascends (map Value.Text (drop k xs)) ≡ is_lt o && ascends (map Value.Text (drop next xs))
ascend_from [] k next o e h is = absurd (omega (arith, h))
ascend_from (x ∷ xs) k zero o e h is = absurd (omega (arith, e))
ascend_from (x ∷ []) zero (suc n) o e h is = absurd (omega (arith, h))
ascend_from (x ∷ y ∷ ys) zero (suc zero) o e h is = ap (λ (p : Ordering). is_lt p && ascends (map Value.Text (y ∷ ys))) (sym is)
ascend_from (x ∷ y ∷ ys) zero (suc (suc n)) o e h is = absurd (omega (arith, e))
ascend_from (x ∷ xs) (suc k) (suc n) o e h is = ascend_from xs k n o (omega (arith, e)) (omega (arith, h)) is

-- the last text ascends alone
pub ascend_last : (xs : List (List ℕ)) (k : ℕ) → length xs ≤ k + 1 → ascends (map Value.Text (drop k xs)) ≡ true
ascend_last [] zero h = refl
ascend_last [] (suc k) h = refl
ascend_last (x ∷ []) zero h = refl
ascend_last (x ∷ y ∷ ys) zero h = absurd (omega (arith, h))
ascend_last (x ∷ xs) (suc k) h = ascend_last xs k (omega (arith, h))
