-- Integers that never fall, by the first one and the differences.
use Rattle.std.specs.Prelude.{◌≡◌, ℕ, zero, suc, ◌≤◌, List, [], ◌∷◌, length, ℤ, pos, ◌+ℤ◌}
use Rattle.cs_codec.specs.Cells.{IsInt}

-- the values after `before`, each above the one before it by its difference
abbrev pub rises : ℤ → List ℕ → List ℤ
rises before [] = []
rises before (g ∷ gs) = (before +ℤ pos g) ∷ rises (before +ℤ pos g) gs

-- the last of these values
abbrev pub last_rise : ℤ → List ℕ → ℤ
last_rise before [] = before
last_rise before (g ∷ gs) = last_rise (before +ℤ pos g) gs

-- the values, or none if the count is 0
abbrev pub rising : ℕ → ℤ → List ℕ → List ℤ
rising zero first gaps = []
rising (suc count) first gaps = first ∷ rises first gaps

-- what holds of the fields of a part
pub record IsRise (count : ℕ) (first : ℤ) (gaps : List ℕ) (last : ℤ) : Type 0 where
  pub count_is : count ≡ length (rising count first gaps)
  pub short : count ≤ 1048576
  pub last_is : last_rise first gaps ≡ last
  pub first_fits : IsInt first
  pub last_fits : IsInt last
