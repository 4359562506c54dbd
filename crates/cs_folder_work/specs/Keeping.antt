-- Old files that are kept.
use Rattle.std.specs.Prelude.{◌≡◌, ◌⊎◌, ℕ, List, ◌∷◌}
use Rattle.std.specs.List.{AllZip}
use Rattle.cs_schema.specs.declared.file_name.FileName.{FileName}
use Rattle.cs_file_system.specs.Calls.{Calls, WasCalled, keep, miss, same, see, sync_folder}
use Rattle.cs_folders.specs.Paths.{file_at}
use Rattle.cs_folder_work.specs.declared.record.Change.{Change}
use Rattle.cs_folder_work.specs.declared.record.Change.TheVariants.{New, Replaces}

-- where the old file of a path is kept something was seen if it is replaced, and nothing if it is new
abbrev pub WasSeen : Change → List ℕ → Calls → Type 0
WasSeen New kept calls = WasCalled (miss kept) calls
WasSeen Replaces kept calls = WasCalled (see kept) calls

-- what stands at a path got a second name, or what has that was found to be the same
abbrev pub IsKeptAs : (path kept : List ℕ) → Calls → Type 0
IsKeptAs path kept calls = WasCalled (keep path kept) calls ⊎ WasCalled (same path kept) calls

-- What becomes of a path: what stood there is kept under a second name, and is replaced; or nothing stood there, and it is
-- replaced if something was kept of it before.
abbrev pub Becomes : Change → (path kept : List ℕ) → Calls → Type 0
Becomes change path kept calls = (IsKeptAs path kept calls × (change ≡ Replaces)) ⊎ (WasCalled (miss path) calls × WasSeen change kept calls)

-- what became of what stood in the store under each of these names, of which the folder keeps the old files
abbrev pub Become : (store folder : List ℕ) → List FileName → List Change → Calls → Type 0
Become store folder names changes calls = AllZip (λ name change. Becomes change (file_at store name) (file_at folder name) calls) names changes

-- the same, and then the names in both were brought to the disk
pub record AreKept (store folder : List ℕ) (names : List FileName) (changes : List Change) (calls : Calls) : Type 0 where
  pub before : Calls
  pub last : calls ≡ sync_folder store ∷ sync_folder folder ∷ before
  pub each : Become store folder names changes before
