-- Why a restore is refused, and why it fails.
use Rattle.std.specs.Prelude.{◌≡◌, ◌⊎◌, ◌<◌, ℕ, List, [], Some, Err}
use Rattle.std.specs.List.{slice_get}
use Rattle.cs_schema.specs.CatalogData.{CatalogData}
use Rattle.cs_schema.specs.FileNames.{surviving}
use Rattle.cs_schema.specs.Lists.{IsIn}
use Rattle.cs_schema.specs.Losses.{Sites}
use Rattle.cs_schema.specs.declared.file_name.FileName.{FileName}
use Rattle.cs_store.specs.FileSet.{Files, contents_of}
use Rattle.cs_store.specs.declared.fault.Fault.{Fault}
use Rattle.cs_store.specs.declared.readable.Readable.{Readable}
use Rattle.cs_shelf.specs.Shelf.{IsFoundIn}
use Rattle.cs_recovery.specs.Verdicts.{IsCheckVerdict, IsRebuildVerdict}
use Rattle.cs_restore.specs.Restoring.{AreSurvivorsRead}

-- the first of the surviving names, in their order, whose file could not be read
pub record IsFirstUnread (C : CatalogData) (L : Sites) (unreadable : List FileName) (name : FileName) : Type 0 where
  pub place : ℕ
  pub at : slice_get (surviving C L) place ≡ Some name
  pub unread : IsIn name unreadable
  pub before : (i : ℕ) (n : FileName) → i < place → slice_get (surviving C L) i ≡ Some n → ¬ IsIn n unreadable

-- what was read of a store is refused: a surviving file could not be read, or `rebuild` refuses what was read
pub data IsRefusedPlan (C : CatalogData) (L : Sites) (read : Readable) (fault : Fault) : Type 0 where
  unread : (name : FileName) → fault ≡ Fault.Read name → IsFirstUnread C L read.unreadable.items name → IsRefusedPlan C L read fault
  refused : AreSurvivorsRead C L read.unreadable.items → IsRebuildVerdict C (contents_of read.files) L (Err fault) → IsRefusedPlan C L read fault

-- what is held was read back, and `check` refuses it
pub record IsRefusedBack (C : CatalogData) (held : Files → Type 0) (fault : Fault) : Type 0 where
  pub read : Files
  pub found : IsFoundIn held (surviving C []) read
  pub refused : IsCheckVerdict C (contents_of read) 0 (Err fault)

-- A restore fails: what was read is refused, and nothing changed; or a call of the store failed; or what was read back is refused.
abbrev pub IsRestoreFault : CatalogData → Sites → Readable → Type 0 → Type 0 → (Files → Type 0) → Fault → Type 0
IsRestoreFault C L read unchanged failed held fault = (IsRefusedPlan C L read fault × unchanged) ⊎ (failed ⊎ IsRefusedBack C held fault)
