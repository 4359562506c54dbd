-- Files and folders that are put in place.
use Rattle.std.specs.Prelude.{◌≡◌, ℕ, List, [], ◌∷◌}
use Rattle.cs_file_system.specs.Calls.{Calls, IsSettled, IsSynced, create, finish, rename, sync, sync_folder, write}

-- the last call gave the new file at this path another name, once its bytes were on the disk
pub record IsPut (beside path : List ℕ) (calls : Calls) : Type 0 where
  pub before : Calls
  pub last : calls ≡ rename beside path ∷ before
  pub synced : IsSynced beside before

-- the names in a new folder are brought to the disk, then it gets its name, and then that is brought there
abbrev pub folder_put : (beside path parent : List ℕ) → Calls
folder_put beside path parent = sync_folder parent ∷ rename beside path ∷ sync_folder beside ∷ []

-- a mark was made in a folder, once the names in that were on the disk, and then its bytes and all names were brought there
pub record IsMarked (folder parent path : List ℕ) (calls : Calls) : Type 0 where
  pub before : Calls
  pub last : calls ≡ sync_folder parent ∷ sync_folder folder ∷ sync path ∷ write path ∷ create path ∷ before
  pub settled : IsSettled folder before

-- the last call removed a mark, once the names in its folder were on the disk
pub record IsUnmarked (folder path : List ℕ) (calls : Calls) : Type 0 where
  pub before : Calls
  pub last : calls ≡ finish path ∷ before
  pub settled : IsSettled folder before
