-- Membership in a list, and the numbers below a count.
use Rattle.std.specs.Prelude.{◌≡◌, ℕ, ◌==◌, ◌⊎◌, Bool, List, [], ◌∷◌}
use Rattle.std.specs.List.{list_any, range_with_len}

-- the number stands in the list
abbrev pub member : List ℕ → ℕ → Bool
member xs x = list_any (λ y. y == x) xs

-- x stands in the list
abbrev pub IsIn : {X : Type 0} → X → List X → Type 0
IsIn x [] = ⊥
IsIn x (y ∷ ys) = (x ≡ y) ⊎ IsIn x ys

-- 0, 1, .., n - 1
abbrev pub numbers_below : ℕ → List ℕ
numbers_below n = range_with_len 0 n
