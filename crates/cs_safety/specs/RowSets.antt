-- What is left of rows, by the columns that were looked at: words of the private functions. A set of projections is a word
-- of bits, a family of sets a list of 256 marks.
use Rattle.std.specs.Prelude.{◌≡◌, ℕ, ◌+◌, ◌<◌, ◌==◌, Bool, true, false, not, ◌&&◌, ◌⊎◌, List, length, slice_index_or, bit_or, nat_lt}
use Rattle.cs_schema.specs.declared.cells.Value.{Value}
use Rattle.cs_schema.specs.Lists.{IsIn}
use Rattle.cs_schema.specs.Ranges.{range_of}
use Rattle.cs_schema.specs.CatalogData.{CatalogData, projection}
use Rattle.cs_schema.specs.Rows.{Row, IsRow}
use Rattle.cs_schema.specs.Losses.{Sites, lost}
use Rattle.cs_safety.specs.Safety.{with_row}
use Rattle.cs_safety.specs.SafetyCuts.{first_sort}
use Rattle.cs_safety.specs.NumberSets.{is_in}

-- p is sorted by the column first, and its segment of the value is not lost
abbrev pub keeps : CatalogData → Sites → ℕ → Value → ℕ → Bool
keeps C L c v p = nat_lt p (length C.projections) && (first_sort C p == c && not (lost C L p (range_of (projection C p).cuts v)))

-- p is sorted by a column below c first, and its segment of the row is not lost
abbrev pub keeps_row : CatalogData → Sites → ℕ → Row → ℕ → Bool
keeps_row C L c r p = nat_lt p (length C.projections) && (nat_lt (first_sort C p) c && with_row C L r p)

-- the set of the projections that keep the value
abbrev pub IsKept : CatalogData → Sites → ℕ → Value → ℕ → Type 0
IsKept C L c v set = (p : ℕ) → is_in set p ≡ keeps C L c v p

-- the set of the projections that keep the row
abbrev pub IsLeft : CatalogData → Sites → ℕ → Row → ℕ → Type 0
IsLeft C L c r set = (p : ℕ) → is_in set p ≡ keeps_row C L c r p

-- whether a set is in the family
abbrev pub among : List Bool → ℕ → Bool
among sets s = slice_index_or sets s false

-- each set of the family is what is left of some row
abbrev pub IsSound : CatalogData → Sites → ℕ → List Bool → Type 0
IsSound C L c sets = (s : ℕ) → s < 256 → among sets s ≡ true → (r : Row) × IsRow C r × IsLeft C L c r s

-- what is left of each row is in the family
abbrev pub IsComplete : CatalogData → Sites → ℕ → List Bool → Type 0
IsComplete C L c sets = (r : Row) → IsRow C r → (s : ℕ) × (s < 256) × (among sets s ≡ true) × IsLeft C L c r s

-- the family of what is left of rows
pub record AreLeft (C : CatalogData) (L : Sites) (c : ℕ) (sets : List Bool) : Type 0 where
  pub size : length sets ≡ 256
  pub sound : IsSound C L c sets
  pub complete : IsComplete C L c sets

-- the new family has the old one's sets with those of kept added
abbrev pub HasWith : List Bool → ℕ → List Bool → Type 0
HasWith old kept new = (t : ℕ) → t < 256 → among old t ≡ true → (bit_or t kept < 256) × (among new (bit_or t kept) ≡ true)

-- what is new in a family comes from the old one and the kept
pub record IsGrown (old : List Bool) (kept : ℕ) (before after : List Bool) : Type 0 where
  pub size : length after ≡ 256
  pub stays : (s : ℕ) → among before s ≡ true → among after s ≡ true
  pub has : HasWith old kept after
  pub from : (s : ℕ) → among after s ≡ true → (among before s ≡ true) ⊎ ((t : ℕ) × (t < 256) × (among old t ≡ true) × (s ≡ bit_or t kept))

-- the family has the sets for a value of the column
abbrev pub HasValue : CatalogData → Sites → ℕ → List Bool → List Bool → Value → Type 0
HasValue C L c old new v = (kept : ℕ) × (kept < 256) × IsKept C L c v kept × HasWith old kept new

-- no set is taken away
abbrev pub StaysIn : List Bool → List Bool → Type 0
StaysIn before after = (s : ℕ) → among before s ≡ true → among after s ≡ true

-- the family has the sets for each cut of the projection
abbrev pub HasCuts : CatalogData → Sites → ℕ → List Bool → List Bool → ℕ → Type 0
HasCuts C L c old new p = (v : Value) → IsIn v (projection C p).cuts → HasValue C L c old new v

-- a family that is being built, each set of it left of some row by one column more
pub record IsGrowing (C : CatalogData) (L : Sites) (c : ℕ) (sets : List Bool) : Type 0 where
  pub size : length sets ≡ 256
  pub sound : IsSound C L (c + 1) sets
