-- Parts of the bitmap encoding.
use Rattle.std.specs.Prelude.{◌≡◌, ℕ, ◌+◌, ◌-◌, ◌≤◌, Bool, cond, List, ◌++◌, length, Some}
use Rattle.std.specs.declared.cmp.Ordering.{Ordering}
use Rattle.std.specs.BTreeMap.{BTreeMap, get, is_at, IsOrdered}
use Rattle.cs_codec.specs.Texts.{bitmap_lengths}
use Rattle.cs_codec.specs.declared.bitmaps.BitmapsPart.{BitmapsPart}
use Rattle.cs_codec.specs.declared.bitmaps.Kept.{Kept}
use Rattle.cs_codec.specs.declared.bitmaps.Kept.TheVariants.{Cells, Bitmaps}
use Rattle.cs_codec.specs.Bitmaps.{if_some, or_empty, glued, total}

-- these are the bitmaps of the values that occur in the list, by ascending value
pub record AreBitmaps {C : Type 0} (eq : C → C → Bool) (cmp : C → C → Ordering) (bitmaps : BTreeMap C (List ℕ)) (cells : List C) : Type 0 where
  pub each : (x : C) → get cmp bitmaps x ≡ if_some (bitmap_lengths eq x cells)
  pub ordered : IsOrdered cmp bitmaps

-- a part stores these cells, as they are or as bitmaps
abbrev pub Keeps : {C : Type 0} → (C → C → Bool) → (C → C → Ordering) → Kept C → List C → Type 0
Keeps eq cmp (Cells few) cells = few.cells.items ≡ cells
Keeps eq cmp (Bitmaps bitmaps) cells = AreBitmaps eq cmp bitmaps cells

-- the part stores these cells, and how many there are
pub record IsBitmapsPart {C : Type 0} (eq : C → C → Bool) (cmp : C → C → Ordering) (part : BitmapsPart C) (cells : List C) : Type 0 where
  pub keeps : Keeps eq cmp part.kept cells
  pub count_is : part.count ≡ length cells

-- the bitmaps are those of `before` cells, after which there is room for `more`
pub record HasRoom {C : Type 0} (eq : C → C → Bool) (cmp : C → C → Ordering) (bitmaps : BTreeMap C (List ℕ)) (before more : ℕ) : Type 0 where
  pub front : List C
  pub are : AreBitmaps eq cmp bitmaps front
  pub before_is : before ≡ length front
  pub short : length front + more ≤ 1048576

-- the bitmaps are those of `before` cells, after which there is room for cells of which this holds
pub record CanFollow {C : Type 0} (eq : C → C → Bool) (cmp : C → C → Ordering) (bitmaps : BTreeMap C (List ℕ)) (before : ℕ) (of_them : List C → Type 0) : Type 0 where
  pub back : List C
  pub they_are : of_them back
  pub room : HasRoom eq cmp bitmaps before (length back)

-- if the old bitmaps are those of `before` cells, the new ones are those of these, followed by `cells`
abbrev pub GoOn : {C : Type 0} → (C → C → Bool) → (C → C → Ordering) → BTreeMap C (List ℕ) → BTreeMap C (List ℕ) → ℕ → List C → Type 0
GoOn {C} eq cmp old new before cells = (front : List C) → before ≡ length front → AreBitmaps eq cmp old front → AreBitmaps eq cmp new (front ++ cells)

-- the bitmap of v over the first `offset` positions is followed by these lengths; all other bitmaps are unchanged
abbrev pub Follows : {C : Type 0} → (C → C → Ordering) → ℕ → List ℕ → BTreeMap C (List ℕ) → BTreeMap C (List ℕ) → C → Type 0
Follows {C} cmp offset ls old new v = (q : C) → get cmp new q ≡ cond (is_at (cmp v) q) (Some (glued (or_empty (get cmp old v)) (offset - total (or_empty (get cmp old v))) ls)) (get cmp old q)
