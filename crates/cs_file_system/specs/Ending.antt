-- Work that ends.
use Rattle.std.specs.Prelude.{◌≡◌, ℕ, List, [], ◌∷◌, ◌++◌, map, string_bytes}
use Rattle.cs_file_system.specs.Calls.{Calls, IsSettled, IsSynced, finish, keep, sync_folder}
use Rattle.cs_file_system.specs.declared.ending.EndOfWork.{EndOfWork}

-- the record of work got a second name, once what it added to the log and the folder's names were on the disk
pub record IsRecorded (work : EndOfWork) (calls : Calls) : Type 0 where
  pub before : Calls
  pub last : calls ≡ keep (string_bytes work.mark) (string_bytes work.kept_mark) ∷ before
  pub logged : IsSynced (string_bytes work.log) before
  pub settled : IsSettled (string_bytes work.folder) before

-- the names in these folders are brought to the disk, in their order
abbrev pub folders_synced : List (List ℕ) → Calls
folders_synced [] = []
folders_synced (folder ∷ folders) = folders_synced folders ++ sync_folder folder ∷ []

-- the names in the folders that changed are brought to the disk, then those of what is kept and those in the folder of the work,
-- and then its record is removed
abbrev pub work_ended : EndOfWork → Calls
work_ended work = finish (string_bytes work.mark) ∷ sync_folder (string_bytes work.folder) ∷ sync_folder (string_bytes work.kept) ∷ folders_synced (map string_bytes work.changed.items)

-- the work was logged, then recorded, and then its record was removed, each once what came before was on the disk
pub record IsFinished (work : EndOfWork) (calls : Calls) : Type 0 where
  pub before : Calls
  pub last : calls ≡ work_ended work ++ before
  pub recorded : IsRecorded work before
