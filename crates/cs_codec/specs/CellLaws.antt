-- The laws of the two kinds of cells, and of numbers.
use Rattle.std.proofs.Common.{◌≡◌, ℕ, ◌^◌, ◌<◌, true, List, [], ◌∷◌, ◌++◌, length, refl, sym, ap, ◌∙◌, arith, rules, ℤ}
use Rattle.std.specs.Prelude.{nat_eq}
use Rattle.std.specs.Ordering.{int_eq}
use Rattle.std.specs.Cmp.Lexicographic.{pointwise}
use Rattle.std.specs.Int.{w32, w64, from_be_bytes, cast_unsigned, cast_signed}
use Rattle.std.proofs.lemmas.Int.{to_z-of_z, ints}
use Rattle.std.proofs.lemmas.Nat.{from_be_bytes-to_be_bytes_4, from_be_bytes-to_be_bytes_8}
use Rattle.cs_codec.specs.Cells.{number, int_cell, IsInt, text_cell, IsText, BeginsOne}

-- equal lists have equal prefixes of equal length, and equal remainders
pub same_fronts : {X : Type 0} (a b x y : List X) → length a ≡ length b → a ++ x ≡ b ++ y → (a ≡ b) × (x ≡ y)
same_fronts [] [] x y l e = (refl, e)
same_fronts [] (d ∷ b) x y l e = absurd cc
same_fronts (c ∷ a) [] x y l e = absurd cc
same_fronts (c ∷ a) (d ∷ b) x y l e =
    let tails : a ++ x ≡ b ++ y = cc in
    let lens : length a ≡ length b = omega arith in
    let deeper = same_fronts a b x y lens tails in
    let heads : c ≡ d = cc in
    (cc, deeper.1)

pub length-number : (n : ℕ) → length (number n) ≡ 4
unfolding number
length-number n = refl

pub length-int_cell : (z : ℤ) → length (int_cell z) ≡ 8
unfolding int_cell
length-int_cell z = refl

-- numbers with the same four bytes are equal
pub number_exact : (m n : ℕ) → m < 2 ^ 32 → n < 2 ^ 32 → number m ≡ number n → m ≡ n
unfolding number
number_exact m n lm ln e = sym (from_be_bytes-to_be_bytes_4 m lm) ∙ ap (from_be_bytes w32) e ∙ from_be_bytes-to_be_bytes_4 n ln

pub number_begins_one : (m n : ℕ) (x y : List ℕ) → m < 2 ^ 32 → n < 2 ^ 32 → number m ++ x ≡ number n ++ y → (m ≡ n) × (x ≡ y)
number_begins_one m n x y lm ln e =
    let both = same_fronts (number m) (number n) x y (length-number m ∙ sym (length-number n)) e in
    (number_exact m n lm ln both.0, both.1)

bits_fit : (z : ℤ) → IsInt z → cast_unsigned w64 z < 2 ^ 64
bits_fit z h = omega (arith, ints)

pub int_begins_one : BeginsOne int_cell IsInt
unfolding int_cell
int_begins_one c d rest others hc hd e =
    let both = same_fronts (int_cell c) (int_cell d) rest others refl e in
    let bits : cast_unsigned w64 c ≡ cast_unsigned w64 d = sym (from_be_bytes-to_be_bytes_8 (cast_unsigned w64 c) (bits_fit c hc)) ∙ ap (from_be_bytes w64) both.0 ∙ from_be_bytes-to_be_bytes_8 (cast_unsigned w64 d) (bits_fit d hd) in
    (sym (to_z-of_z w64 c hc) ∙ ap (cast_signed w64) bits ∙ to_z-of_z w64 d hd, both.1)

pub int_exact : (x y : ℤ) → int_eq x y ≡ true → x ≡ y
int_exact x y e = search rules

pub text_exact : (x y : List ℕ) → pointwise nat_eq x y ≡ true → x ≡ y
text_exact x y e = search rules

pub text_begins_one : BeginsOne text_cell IsText
text_begins_one c d rest others hc hd e =
    let lens : length c ≡ length d = cc in
    let tails : c ++ rest ≡ d ++ others = cc in
    same_fronts c d rest others lens tails

pub int_some_bytes : (z : ℤ) → 0 < length (int_cell z)
int_some_bytes z = omega (arith, length-int_cell z)

pub text_some_bytes : (word : List ℕ) → 0 < length (text_cell word)
text_some_bytes word = omega arith
