-- What a restore leaves of a store, and what it comes to.
use Rattle.std.specs.Prelude.{◌≡◌, ◌⊎◌, ℕ, List, Ok, Result, []}
use Rattle.cs_schema.specs.CatalogData.{CatalogData}
use Rattle.cs_schema.specs.CatalogRules.{IsCatalog}
use Rattle.cs_schema.specs.FileNames.{surviving, Survives}
use Rattle.cs_schema.specs.Lists.{IsIn}
use Rattle.cs_schema.specs.Losses.{Sites}
use Rattle.cs_schema.specs.Rows.{Row}
use Rattle.cs_schema.specs.declared.file_name.FileName.{FileName}
use Rattle.cs_store.specs.FileSet.{Files, contents_of}
use Rattle.cs_store.specs.declared.fault.Fault.{Fault}
use Rattle.cs_shelf.specs.Shelf.{IsAmong, IsFoundIn}
use Rattle.cs_recovery.specs.AnswerLaws.{IsOrMemory}
use Rattle.cs_recovery.specs.Claims.{IsCheckAnswer, IsOnlyTable, IsRebuildAnswer, put_over}
use Rattle.cs_recovery.specs.Holding.{Holds, HoldsSurvivors}
use Rattle.cs_restore.specs.Placing.{IsPartOf, IsThere, OthersAreThere}

-- no surviving file was unreadable
abbrev pub AreSurvivorsRead : CatalogData → Sites → List FileName → Type 0
AreSurvivorsRead C L unreadable = (n : FileName) → Survives C L n → ¬ IsIn n unreadable

-- of these contents `rebuild` answers these files, and all but those of the changes stand in place
pub record PlansFor (C : CatalogData) (L : Sites) (out : Files) (changes : List FileName) (d : Files) : Type 0 where
  pub answers : IsRebuildAnswer C (contents_of d) L (Ok out)
  pub others : (n : FileName) → IsAmong changes n ⊎ IsThere out d n

-- `rebuild` answers these files, whichever of the contents is held, and all but those of the changes stand in place
pub record PlansRestore (C : CatalogData) (L : Sites) (held : Files → Type 0) (out : Files) (changes : List FileName) : Type 0 where
  pub answers : (d : Files) → held d → IsRebuildAnswer C (contents_of d) L (Ok out)
  pub others : OthersAreThere out changes held

-- each name has what it had or what `rebuild` answers of what stood there, and none changed that the answer lacks
abbrev pub IsPart : CatalogData → Sites → Files → Files → Type 0
IsPart C L d c = (out : Files) × IsRebuildAnswer C (contents_of d) L (Ok out) × IsPartOf out d c

-- nothing changed, or the store is a part
abbrev pub IsOldOrPart : CatalogData → Sites → Files → Files → Type 0
IsOldOrPart C L d c = (c ≡ d) ⊎ IsPart C L d c

-- what a stop may leave: what one might have left before, or a part of what is held
abbrev pub MayBeLeft : CatalogData → Sites → (Files → Type 0) → (Files → Type 0) → Files → Type 0
MayBeLeft C L held left c = left c ⊎ ((d : Files) × held d × IsPart C L d c)

-- the store holds the table that the survivors held, and they held no other
pub record IsFinished (C : CatalogData) (L : Sites) (d c : Files) : Type 0 where
  pub table : List Row
  pub held : IsOnlyTable (HoldsSurvivors C (contents_of d) L) table
  pub holds : Holds C (contents_of c) table

-- what was read back is what is held, and `check` accepted it
pub record ReadsBack (C : CatalogData) (held : Files → Type 0) (rows : ℕ) : Type 0 where
  pub read : Files
  pub found : IsFoundIn held (surviving C []) read
  pub accepted : IsCheckAnswer C (contents_of read) 0 (Ok rows)

-- Where a restore stopped, `rebuild` answers the same files again and no others, want of memory aside; put in place they
-- make the store what it would have been without the stop.
abbrev pub StoppedRestoresAgain : Type 0
StoppedRestoresAgain =
    (C : CatalogData) → IsCatalog C → (L : Sites) (d c out : Files) → IsRebuildAnswer C (contents_of d) L (Ok out) → IsOldOrPart C L d c
    → IsRebuildAnswer C (contents_of c) L (Ok out) × ((r : Result Files Fault) → IsRebuildAnswer C (contents_of c) L r → IsOrMemory (Ok out) r)
    × ((n : FileName) → put_over (contents_of out) (contents_of c) n ≡ put_over (contents_of out) (contents_of d) n)
