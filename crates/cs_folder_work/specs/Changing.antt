-- Files of names that change, each in the folder of its name.
use Rattle.std.specs.Prelude.{◌≡◌, ◌⊎◌, ℕ, List, [], ◌∷◌, ◌++◌, Some, IsSomeAnd, codes, option_map, unwrap_or, decimal, string_bytes}
use Rattle.std.specs.BTreeMap.{get, keys}
use Rattle.cs_schema.specs.FileNames.{name_cmp}
use Rattle.cs_schema.specs.declared.file_name.FileName.{FileName}
use Rattle.cs_file_system.specs.Calls.{Calls, MayBeReplaced, remove}
use Rattle.cs_file_system.specs.Moving.{IsMovedBack}
use Rattle.cs_file_system.specs.Placing.{IsPut}
use Rattle.cs_file_system.specs.declared.identity.Identity.{Identity}
use Rattle.cs_file_system.specs.declared.replacing.Replacement.{Replacement}
use Rattle.cs_folders.specs.Paths.{file_at}
use Rattle.cs_folder_work.specs.Folders.{IsFolderOf}
use Rattle.cs_folder_work.specs.declared.record.Change.{Change}
use Rattle.cs_folder_work.specs.declared.record.Change.TheVariants.{New}
use Rattle.cs_folder_work.specs.declared.record.Record.{Record}
use Rattle.cs_folder_work.specs.declared.store_folders.StoreFolders.{StoreFolders}

-- where the new file of a name is made
abbrev pub restoring_at : (folder : List ℕ) → FileName → List ℕ
restoring_at folder name = file_at folder name ++ codes ".restoring"

-- the folder that keeps what work of this number replaces in a folder
abbrev pub kept_in : (folder : List ℕ) → (number : ℕ) → List ℕ
kept_in folder number = folder ++ codes "/replaced/" ++ decimal number

-- the paths of what changes with a name in a folder, by work of this number
pub record ArePathsOf (folder : List ℕ) (number : ℕ) (name : FileName) (paths : Replacement) : Type 0 where
  pub path : string_bytes paths.path ≡ file_at folder name
  pub beside : string_bytes paths.beside ≡ restoring_at folder name
  pub kept : string_bytes paths.kept ≡ file_at (kept_in folder number) name
  pub kept_folder : string_bytes paths.kept_folder ≡ kept_in folder number

-- the names that change, by the record
abbrev pub names_of : Record → List FileName
names_of noted = unwrap_or (option_map keys noted.changes) []

-- the record says that this becomes of a name
abbrev pub IsNoted : Record → FileName → Change → Type 0
IsNoted noted name change = IsSomeAnd noted.changes (λ changes. get name_cmp changes name ≡ Some change)

-- what stands under a name in a folder was kept there by work of this number, and that is on the disk
abbrev pub IsNameKept : (folder : List ℕ) → (number : ℕ) → FileName → Calls → Type 0
IsNameKept folder number name = MayBeReplaced (file_at folder name) (file_at (kept_in folder number) name) (kept_in folder number)

module _ (has_identity : List ℕ → Identity → Type 0) (folders : StoreFolders) (noted : Record) (name : FileName) where
  -- A new file took a name, once its bytes were on the disk. What stood there was kept, unless the record says that nothing
  -- stood there before the work.
  pub record IsNameReplaced (calls : Calls) : Type 0 where
    pub folder : List ℕ
    pub reached : IsFolderOf has_identity folders name folder
    pub put : IsPut (restoring_at folder name) (file_at folder name) calls
    pub safe : IsNoted noted name New ⊎ IsNameKept folder noted.kept name put.before

  -- what stood under a name was removed, once it was kept
  pub record IsNameTakenAway (calls : Calls) : Type 0 where
    pub folder : List ℕ
    pub reached : IsFolderOf has_identity folders name folder
    pub before : Calls
    pub last : calls ≡ remove (file_at folder name) ∷ before
    pub safe : IsNameKept folder noted.kept name before

  -- what other work kept of a name was moved back there, if it was not before, once what stood there was kept
  abbrev pub IsNameMovedBack : (number : ℕ) → Calls → Type 0
  IsNameMovedBack number calls =
      (folder : List ℕ) × IsFolderOf has_identity folders name folder
      × IsMovedBack (file_at (kept_in folder number) name) (file_at folder name) (file_at (kept_in folder noted.kept) name) (kept_in folder noted.kept) calls
