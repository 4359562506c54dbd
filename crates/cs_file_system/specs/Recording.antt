-- Records of work that get their names.
use Rattle.std.specs.Prelude.{◌≡◌, ℕ, List, ◌∷◌}
use Rattle.cs_file_system.specs.Calls.{Calls, IsSynced, link, rename, sync_folder}

-- a new record got its name, once its bytes were on the disk, and then that was brought there
pub record IsBegun (folder path : List ℕ) (calls : Calls) : Type 0 where
  pub beside : List ℕ
  pub before : Calls
  pub last : calls ≡ sync_folder folder ∷ link beside path ∷ before
  pub synced : IsSynced beside before

-- a record took the place of an earlier one, once its bytes were on the disk, and then its name was brought there
pub record IsRewritten (folder path : List ℕ) (calls : Calls) : Type 0 where
  pub beside : List ℕ
  pub before : Calls
  pub last : calls ≡ sync_folder folder ∷ rename beside path ∷ before
  pub synced : IsSynced beside before
