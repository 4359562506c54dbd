-- Names that new files take.
use Rattle.std.specs.Prelude.{◌≡◌, ◌⊎◌, ℕ, List, ◌∷◌}
use Rattle.cs_file_system.specs.Calls.{Calls, IsSynced, create, link, remove, rename, sync_folder}

-- A new file, whose bytes were on the disk, took a name that nothing had: by a link, which refuses a name that is there, or by
-- an empty file that was made there, which a rename replaced.
pub record IsTaken (beside path : List ℕ) (calls : Calls) : Type 0 where
  pub before : Calls
  pub synced : IsSynced beside before
  pub last : (calls ≡ remove beside ∷ link beside path ∷ before) ⊎ (calls ≡ rename beside path ∷ create path ∷ before)

-- so a new file took the name, and then that was brought to the disk
pub record IsPutNew (path folder : List ℕ) (calls : Calls) : Type 0 where
  pub beside : List ℕ
  pub before : Calls
  pub last : calls ≡ sync_folder folder ∷ before
  pub taken : IsTaken beside path before
