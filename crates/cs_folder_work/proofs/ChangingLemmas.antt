-- What becomes of the paths of a name becomes of the name.
use Rattle.std.proofs.Common.{◌≡◌, ℕ, List, ◌∷◌, subst, inl, inr, string_bytes}
use Rattle.cs_schema.specs.declared.file_name.FileName.{FileName}
use Rattle.cs_file_system.specs.Calls.{Calls, IsSynced, MayBeReplaced, remove, rename}
use Rattle.cs_file_system.specs.Moving.{IsMovedBack}
use Rattle.cs_file_system.specs.Placing.{IsPut}
use Rattle.cs_file_system.specs.Replacing.{IsReplaced, IsTakenAway}
use Rattle.cs_file_system.specs.declared.identity.Identity.{Identity}
use Rattle.cs_file_system.specs.declared.replacing.Replacement.{Replacement}
use Rattle.cs_folders.specs.Paths.{file_at}
use Rattle.cs_folder_work.specs.Changing.{ArePathsOf, IsNameKept, IsNameMovedBack, IsNameReplaced, IsNameTakenAway, IsNoted, kept_in, restoring_at}
use Rattle.cs_folder_work.specs.Folders.{IsFolderOf}
use Rattle.cs_folder_work.specs.declared.record.Change.TheVariants.{New}
use Rattle.cs_folder_work.specs.declared.record.Record.{Record}
use Rattle.cs_folder_work.specs.declared.store_folders.StoreFolders.{StoreFolders}

module _ (folder : List ℕ) (number : ℕ) (name : FileName) (paths : Replacement) (are : ArePathsOf folder number name paths) (calls : Calls) where
  put_of : IsPut (string_bytes paths.beside) (string_bytes paths.path) calls → IsPut (restoring_at folder name) (file_at folder name) calls
  put_of put = record {
    before = put.before;
    last = subst (λ b. calls ≡ rename b (file_at folder name) ∷ put.before) are.beside (subst (λ p. calls ≡ rename (string_bytes paths.beside) p ∷ put.before) are.path put.last);
    synced = subst (λ b. IsSynced b put.before) are.beside put.synced;
  }

  kept_of : MayBeReplaced (string_bytes paths.path) (string_bytes paths.kept) (string_bytes paths.kept_folder) calls → IsNameKept folder number name calls
  kept_of safe =
      subst (λ p. MayBeReplaced p (file_at (kept_in folder number) name) (kept_in folder number) calls) are.path (
      subst (λ k. MayBeReplaced (string_bytes paths.path) k (kept_in folder number) calls) are.kept (
      subst (λ f. MayBeReplaced (string_bytes paths.path) (string_bytes paths.kept) f calls) are.kept_folder safe))

module _ (has_identity : List ℕ → Identity → Type 0) (folders : StoreFolders) (noted : Record) (name : FileName) (folder : List ℕ) (reached : IsFolderOf has_identity folders name folder) where
  module _ (paths : Replacement) (are : ArePathsOf folder noted.kept name paths) (calls : Calls) where
    pub new_of : IsPut (string_bytes paths.beside) (string_bytes paths.path) calls → IsNoted noted name New → IsNameReplaced has_identity folders noted name calls
    new_of put new = record { folder = folder; reached = reached; put = put_of folder noted.kept name paths are calls put; safe = inl new }

    pub replaced_of : IsReplaced paths calls → IsNameReplaced has_identity folders noted name calls
    unfolding put_of
    replaced_of done = record {
      folder = folder;
      reached = reached;
      put = put_of folder noted.kept name paths are calls (record { before = done.before; last = done.last; synced = done.synced });
      safe = inr (kept_of folder noted.kept name paths are done.before done.safe);
    }

    pub taken_of : IsTakenAway paths calls → IsNameTakenAway has_identity folders noted name calls
    taken_of done = record {
      folder = folder;
      reached = reached;
      before = done.before;
      last = subst (λ p. calls ≡ remove p ∷ done.before) are.path done.last;
      safe = kept_of folder noted.kept name paths are done.before done.safe;
    }

  pub moved_of : (number : ℕ) (from to : Replacement) → ArePathsOf folder number name from → ArePathsOf folder noted.kept name to → (calls : Calls)
      → IsMovedBack (string_bytes from.kept) (string_bytes to.path) (string_bytes to.kept) (string_bytes to.kept_folder) calls → IsNameMovedBack has_identity folders noted name number calls
  moved_of number from to are_from are_to calls done = (
    folder,
    reached,
    subst (λ f. IsMovedBack f (file_at folder name) (file_at (kept_in folder noted.kept) name) (kept_in folder noted.kept) calls) are_from.kept (
        subst (λ p. IsMovedBack (string_bytes from.kept) p (file_at (kept_in folder noted.kept) name) (kept_in folder noted.kept) calls) are_to.path (
        subst (λ k. IsMovedBack (string_bytes from.kept) (string_bytes to.path) k (kept_in folder noted.kept) calls) are_to.kept (
        subst (λ d. IsMovedBack (string_bytes from.kept) (string_bytes to.path) (string_bytes to.kept) d calls) are_to.kept_folder done))),
  )
