-- Files that are replaced or taken away, and kept.
use Rattle.std.specs.Prelude.{◌≡◌, ◌∷◌, string_bytes}
use Rattle.cs_file_system.specs.Calls.{Calls, IsSynced, MayBeReplaced, remove, rename}
use Rattle.cs_file_system.specs.declared.replacing.Replacement.{Replacement}

-- a new file took the place of what stood at a path, once its bytes were on the disk and what stood there was kept
pub record IsReplaced (paths : Replacement) (calls : Calls) : Type 0 where
  pub before : Calls
  pub last : calls ≡ rename (string_bytes paths.beside) (string_bytes paths.path) ∷ before
  pub synced : IsSynced (string_bytes paths.beside) before
  pub safe : MayBeReplaced (string_bytes paths.path) (string_bytes paths.kept) (string_bytes paths.kept_folder) before

-- what stood at a path was removed, once it was kept
pub record IsTakenAway (paths : Replacement) (calls : Calls) : Type 0 where
  pub before : Calls
  pub last : calls ≡ remove (string_bytes paths.path) ∷ before
  pub safe : MayBeReplaced (string_bytes paths.path) (string_bytes paths.kept) (string_bytes paths.kept_folder) before
