-- Bitmaps by the lengths of their runs.
use Rattle.std.specs.Prelude.{◌≡◌, ℕ, ◌+◌, ◌^◌, ◌<◌, ◌≤◌, ◌==◌, ◌&&◌, Bool, true, false, not, cond, replicate, List, [], ◌∷◌, ◌++◌, length, flat_map, Option, Some, None}
use Rattle.std.specs.List.{AllByRecursion}
use Rattle.cs_codec.specs.Cells.{number}

-- the number of positions that the lengths cover
abbrev pub total : List ℕ → ℕ
total [] = 0
total (n ∷ ns) = n + total ns

-- what holds of the fields of a bitmap: `end` is the position after its last one
pub record IsBitmap (lengths : List ℕ) (end : ℕ) : Type 0 where
  pub end_is : total lengths ≡ end
  pub few : length lengths ≤ 4194304

abbrev pub is_some_list : List ℕ → Bool
is_some_list [] = false
is_some_list (x ∷ xs) = true

-- the last run is longer by n positions
abbrev pub longer_last : List ℕ → ℕ → List ℕ
longer_last [] n = []
longer_last (x ∷ []) n = (x + n) ∷ []
longer_last (x ∷ y ∷ ys) n = x ∷ longer_last (y ∷ ys) n

-- the last run and the first of the others become one
abbrev pub merged : List ℕ → List ℕ → List ℕ
merged left [] = left
merged left (n ∷ ns) = longer_last left n ++ ns

-- the lengths of a bitmap, followed by `gap` zeros and another bitmap
abbrev pub glued : List ℕ → ℕ → List ℕ → List ℕ
glued left gap [] = left
glued left gap (z ∷ ns) = cond ((gap + z == 0) && is_some_list left) (merged left ns) (left ++ (gap + z) ∷ ns)

-- the lengths of a bitmap, followed by a run of zeros and a run of ones
abbrev pub with_run : List ℕ → ℕ → ℕ → List ℕ
with_run left zeros ones = cond ((zeros == 0) && is_some_list left) (longer_last left ones) (left ++ zeros ∷ ones ∷ [])

-- a value and its bitmap, as bytes
abbrev pub entry_text : {C : Type 0} → (C → List ℕ) → C × List ℕ → List ℕ
entry_text bytes e = bytes e.0 ++ number (length e.1) ++ flat_map number e.1

-- a value that occurs nowhere has no bitmap
abbrev pub if_some : List ℕ → Option (List ℕ)
if_some [] = None
if_some (x ∷ xs) = Some (x ∷ xs)

-- a bitmap, or the one without ones
abbrev pub or_empty : Option (List ℕ) → List ℕ
or_empty None = []
or_empty (Some ls) = ls

-- the number of ones that alternating lengths count, the first of them ones if b, else zeros
abbrev pub ones_of : Bool → List ℕ → ℕ
ones_of b [] = 0
ones_of true (n ∷ ns) = n + ones_of false ns
ones_of false (n ∷ ns) = ones_of true ns

-- the bits of alternating lengths, the first of them equal to b
abbrev pub bits_from : Bool → List ℕ → List Bool
bits_from b [] = []
bits_from b (n ∷ ns) = replicate n b ++ bits_from (not b) ns

-- numbers that fit four bytes each
abbrev pub AreNumbers : List ℕ → Type 0
AreNumbers ns = AllByRecursion (λ n. n < 2 ^ 32) ns
