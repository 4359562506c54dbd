-- Numbers at the start of bytes.
use Rattle.std.proofs.Common.{◌≡◌, ℕ, ◌^◌, ◌<◌, List, [], ◌∷◌, ◌++◌, length, refl, sym, ap, ◌∙◌, arith}
use Rattle.std.specs.Int.{w16, w32, from_be_bytes}
use Rattle.std.proofs.lemmas.Nat.{from_be_bytes-to_be_bytes_2, from_be_bytes-to_be_bytes_4}
use Rattle.cs_segment.specs.Bytes.{be16, be32}

-- equal lists have equal prefixes of equal length, and equal remainders
pub same_fronts : {X : Type 0} (a b x y : List X) → length a ≡ length b → a ++ x ≡ b ++ y → (a ≡ b) × (x ≡ y)
same_fronts [] [] x y l e = (refl, e)
same_fronts [] (d ∷ b) x y l e = absurd cc
same_fronts (c ∷ a) [] x y l e = absurd cc
same_fronts (c ∷ a) (d ∷ b) x y l e =
    let tails : a ++ x ≡ b ++ y = cc in
    let lens : length a ≡ length b = omega arith in
    let deeper = same_fronts a b x y lens tails in
    let heads : c ≡ d = cc in
    (cc, deeper.1)

pub be32_once : (m n : ℕ) → m < 2 ^ 32 → n < 2 ^ 32 → be32 m ≡ be32 n → m ≡ n
be32_once m n lm ln e = sym (from_be_bytes-to_be_bytes_4 m lm) ∙ ap (from_be_bytes w32) e ∙ from_be_bytes-to_be_bytes_4 n ln

pub be32_begins : (m n : ℕ) (x y : List ℕ) → m < 2 ^ 32 → n < 2 ^ 32 → be32 m ++ x ≡ be32 n ++ y → (m ≡ n) × (x ≡ y)
be32_begins m n x y lm ln e =
    let both = same_fronts (be32 m) (be32 n) x y refl e in
    (be32_once m n lm ln both.0, both.1)

pub be16_once : (m n : ℕ) → m < 2 ^ 16 → n < 2 ^ 16 → be16 m ≡ be16 n → m ≡ n
be16_once m n lm ln e = sym (from_be_bytes-to_be_bytes_2 m lm) ∙ ap (from_be_bytes w16) e ∙ from_be_bytes-to_be_bytes_2 n ln

pub be16_begins : (m n : ℕ) (x y : List ℕ) → m < 2 ^ 16 → n < 2 ^ 16 → be16 m ++ x ≡ be16 n ++ y → (m ≡ n) × (x ≡ y)
be16_begins m n x y lm ln e =
    let both = same_fronts (be16 m) (be16 n) x y refl e in
    (be16_once m n lm ln both.0, both.1)
