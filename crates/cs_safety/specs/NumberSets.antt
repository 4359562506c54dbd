-- Sets of numbers as the bits of a word, and the first number that passes a test: words of the private functions.
use Rattle.std.specs.Prelude.{◌≡◌, ℕ, zero, suc, ◌<◌, ◌==◌, Bool, true, false, ◌||◌, Option, MatchOption}
use Rattle.std.specs.Int.{bit_at}

-- the number stands in the set of the word's bits
unfoldable pub is_in : ℕ → ℕ → Bool
is_in word i = bit_at word i == 1

-- some number below n passes
abbrev pub some_below : ℕ → (ℕ → Bool) → Bool
some_below zero p = false
some_below (suc n) p = some_below n p || p n

-- the first number below n that passes, where one does
pub record IsFirst (n : ℕ) (p : ℕ → Bool) (q : ℕ) : Type 0 where
  pub below : q < n
  pub passes : p q ≡ true
  pub before : (r : ℕ) → r < q → p r ≡ false

-- none where no number below n passes
abbrev pub IsFirstBelow : ℕ → (ℕ → Bool) → Option ℕ → Type 0
IsFirstBelow n p result = MatchOption result ((q : ℕ) → q < n → p q ≡ false) (λ q. IsFirst n p q)
