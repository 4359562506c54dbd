-- Sets as bits: one number more, either set, both sets.
use Rattle.std.proofs.Common.{◌≡◌, ℕ, ◌*◌, ◌%◌, ◌^◌, ◌<◌, ◌==◌, true, false, ◌||◌, ◌&&◌, min, max, bit_and, bit_or, refl, ap, ◌∙◌, arith, inl, inr}
use Rattle.std.proofs.lemmas.Bool.{cases_lt, cases_eq}
use Rattle.std.proofs.lemmas.Bool.Decides.{nat_tests}
use Rattle.std.specs.Int.{bit_at, Width}
use mir.Val.{bits}
use Rattle.std.proofs.lemmas.Nat.Bits.{bit_at_set_same, bit_at_set_other, bit_at_and, bit_at_or, bit_at-lt, bit_at-zero}
use Rattle.cs_safety.specs.NumberSets.{is_in}

either : (x y : ℕ) → x < 2 → y < 2 → (max x y == 1) ≡ (x == 1 || y == 1)
either x y h k = elim (cases_lt x 1) [
  | inl a ↦ elim (cases_lt y 1) [ inl b ↦ let e : x ≡ 0 = omega arith in let f : y ≡ 0 = omega arith in rw (e, f) refl | inr b ↦ let e : x ≡ 0 = omega arith in let f : y ≡ 1 = omega arith in rw (e, f) refl ]
  | inr a ↦ elim (cases_lt y 1) [ inl b ↦ let e : x ≡ 1 = omega arith in let f : y ≡ 0 = omega arith in rw (e, f) refl | inr b ↦ let e : x ≡ 1 = omega arith in let f : y ≡ 1 = omega arith in rw (e, f) refl ]
]

both : (x y : ℕ) → x < 2 → y < 2 → (min x y == 1) ≡ (x == 1 && y == 1)
both x y h k = elim (cases_lt x 1) [
  | inl a ↦ elim (cases_lt y 1) [ inl b ↦ let e : x ≡ 0 = omega arith in let f : y ≡ 0 = omega arith in rw (e, f) refl | inr b ↦ let e : x ≡ 0 = omega arith in let f : y ≡ 1 = omega arith in rw (e, f) refl ]
  | inr a ↦ elim (cases_lt y 1) [ inl b ↦ let e : x ≡ 1 = omega arith in let f : y ≡ 0 = omega arith in rw (e, f) refl | inr b ↦ let e : x ≡ 1 = omega arith in let f : y ≡ 1 = omega arith in rw (e, f) refl ]
]

pub joined : (a b i : ℕ) → is_in (bit_or a b) i ≡ (is_in a i || is_in b i)
unfolding is_in
joined a b i = ap (λ n. n == 1) (bit_at_or a b i) ∙ either (bit_at a i) (bit_at b i) (bit_at-lt a i) (bit_at-lt b i)

pub met : (a b i : ℕ) → is_in (bit_and a b) i ≡ (is_in a i && is_in b i)
unfolding is_in
met a b i = ap (λ n. n == 1) (bit_at_and a b i) ∙ both (bit_at a i) (bit_at b i) (bit_at-lt a i) (bit_at-lt b i)

pub one_more : (w : Width) (n k : ℕ) → k < bits w → (i : ℕ) → is_in (bit_or n (1 * 2 ^ k % 2 ^ bits w)) i ≡ (i == k || is_in n i)
unfolding is_in
one_more w n k h i = elim (cases_eq i k) [
  | inl e ↦ let t : (i == k) ≡ true = grind (arith, nat_tests) in rw t (ap (λ m. bit_at (bit_or n (1 * 2 ^ k % 2 ^ bits w)) m == 1) e ∙ ap (λ m. m == 1) (bit_at_set_same w n k h))
  | inr d ↦ let t : (i == k) ≡ false = grind (arith, nat_tests) in rw t (ap (λ m. m == 1) (bit_at_set_other w n k h i d))
]

pub none_in : (i : ℕ) → is_in 0 i ≡ false
unfolding is_in
none_in i = ap (λ m. m == 1) (bit_at-zero i)
