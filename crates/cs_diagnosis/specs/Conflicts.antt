-- The sites with which files are in conflict if they are to hold a table, stated by the losses under which they do.
use Rattle.std.specs.Prelude.{◌≡◌, ◌↔◌, ◌+◌, ℕ, false, true, List, map, Some, Option, MatchOption, IsTrue}
use Rattle.std.specs.List.{slice_get}
use lib.Pointwise.{pointwise}
use Rattle.cs_schema.specs.declared.file_name.FileName.{FileName}
use Rattle.cs_schema.specs.CatalogData.{CatalogData}
use Rattle.cs_schema.specs.FileNames.{Survives}
use Rattle.cs_schema.specs.Lists.{member}
use Rattle.cs_schema.specs.Losses.{Sites}
use Rattle.cs_schema.specs.Order.{rows_of}
use Rattle.cs_schema.specs.Rows.{Row, project}
use Rattle.cs_delta.specs.Image.{image_rows}
use Rattle.cs_jix.specs.JoinIndex.{Place}
use Rattle.cs_safety.specs.Within.{IsWithin}
use Rattle.cs_rows.specs.Walk.{Contents}
use Rattle.cs_recovery.specs.Conflicts.{site_of}
use Rattle.cs_recovery.specs.Holding.{agrees}
use Rattle.cs_recovery.specs.Places.{entry_for, entries_for}
use Rattle.cs_diagnosis.specs.Pairs.{IsHit}
use Rattle.cs_diagnosis.specs.declared.conflicts.Conflicts.{Conflicts}

-- ---- losses that hit conflicts

-- the loss contains a site of each stored pair
abbrev pub AreAllHit : Conflicts → Sites → Type 0
AreAllHit k L = (n : ℕ) (others : Sites) → slice_get k.with n ≡ Some others → IsHit L (n + 1, others)

-- ---- what a file has to hold under a loss

-- the image of a segment has the table's rows of its range in order
abbrev pub IsImageOfRows : CatalogData → Contents → List Row → ℕ → ℕ → Type 0
IsImageOfRows C S T p s = image_rows (S.image p s) ≡ map (project C p) (rows_of C T p s)

abbrev pub AreImagesOfRows : CatalogData → Sites → Contents → List Row → Type 0
AreImagesOfRows C L S T = (p s : ℕ) → Survives C L (FileName.Seg p s) → IsImageOfRows C S T p s

-- a join index leads to the places of its rows, as far as these survive
abbrev pub IsJoinOfRows : CatalogData → Sites → Contents → List Row → ℕ → ℕ → ℕ → Type 0
IsJoinOfRows C L S T p s q = pointwise (agrees C L q) (S.join p s q) (entries_for C L S T p s q) ≡ true

-- ---- the conflicts of one file, with the site of the file

-- An image is in conflict with its own site or with none: whatever else is lost, it has the table's rows or it does
-- not.
pub record IsImageConflict (C : CatalogData) (S : Contents) (T : List Row) (a : ℕ × ℕ) (c : ℕ × Sites) : Type 0 where
  pub site : c.0 ≡ site_of C (FileName.Seg a.0 a.1)
  pub told : (L : Sites) → member L c.0 ≡ false → IsWithin c.1 L ↔ IsImageOfRows C S T a.0 a.1

-- An entry of a join index is in conflict with one site or with none. Under each loss that contains the first and keeps
-- the join index and images of the table's rows, the entry agrees with the place of its row: always if it is in
-- conflict with none, else exactly if that site is lost.
pub record IsKeyConflict (C : CatalogData) (first : Sites) (S : Contents) (T : List Row) (p s q key : ℕ) (entry : Place) (other : Option ℕ) : Type 0 where
  pub told : (L : Sites) → IsWithin first L → member L (site_of C (FileName.Seg p s)) ≡ false → AreImagesOfRows C L S T
      → MatchOption other (agrees C L q entry (entry_for C L S T p s q key) ≡ true) (λ y. IsTrue (member L y) ↔ (agrees C L q entry (entry_for C L S T p s q key) ≡ true))

-- The sites with which a join index is in conflict. Under each loss that contains the first and keeps the join index
-- and images of the table's rows, it leads to the places of its rows exactly if all these sites are lost.
pub record IsJoinConflict (C : CatalogData) (first : Sites) (S : Contents) (T : List Row) (a : ℕ × ℕ × ℕ) (c : ℕ × Sites) : Type 0 where
  pub site : c.0 ≡ site_of C (FileName.Seg a.0 a.1)
  pub told : (L : Sites) → IsWithin first L → member L c.0 ≡ false → AreImagesOfRows C L S T → IsWithin c.1 L ↔ IsJoinOfRows C L S T a.0 a.1 a.2

-- ---- the conflicts of the i-th file of a list

pub record ImageConflictAt (C : CatalogData) (S : Contents) (T : List Row) (segments : List (ℕ × ℕ)) (i : ℕ) (c : ℕ × Sites) : Type 0 where
  pub segment : ℕ × ℕ
  pub at : slice_get segments i ≡ Some segment
  pub conflict : IsImageConflict C S T segment c

pub record JoinConflictAt (C : CatalogData) (first : Sites) (S : Contents) (T : List Row) (joins : List (ℕ × ℕ × ℕ)) (i : ℕ) (c : ℕ × Sites) : Type 0 where
  pub join : ℕ × ℕ × ℕ
  pub at : slice_get joins i ≡ Some join
  pub conflict : IsJoinConflict C first S T join c
