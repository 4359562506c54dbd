-- The folders of names, as paths that are brought to the disk.
use Rattle.std.proofs.Common.{◌≡◌, ◌+◌, ◌<◌, ℕ, List, [], ◌∷◌, ◌++◌, ◌∙◌, inl, inr, length, get_or, map, take, refl, sym, subst, ap, arith}
use Rattle.std.proofs.lemmas.List.{take_more, map-append}
use Rattle.std.proofs.lemmas.List.Elements.{All-contains, All-push, All-weaker}
use Rattle.std.proofs.lemmas.List.Quantifiers.{Any-push}
use Rattle.std.specs.List.{All, Contains}
use Rattle.cs_schema.specs.declared.file_name.FileName.{FileName}
use Rattle.cs_file_system.specs.Calls.{Calls, IsSettled, sync_folder}
use Rattle.cs_file_system.specs.declared.identity.Identity.{Identity}
use Rattle.cs_folder_work.specs.Folders.{AreSettled, IsFolderOf, IsFolderOfOne, IsInOneOf, IsInPart, IsPartOf}
use Rattle.cs_folder_work.specs.declared.store_folders.Part.{Part}
use Rattle.cs_folder_work.specs.declared.store_folders.StoreFolders.{StoreFolders}
use Rattle.cs_folder_work.proofs.FolderLemmas.{Any-append_left}

-- the paths of one item more
pub map_more : {A B : Type 0} (f : A → B) (xs : List A) (i : ℕ) (d x : A) → i < length xs → x ≡ get_or xs i d → map f (take (i + 1) xs) ≡ map f (take i xs) ++ f x ∷ []
map_more f xs i d x within at = ap (map f) (take_more xs i d within ∙ ap (λ y. take i xs ++ y ∷ []) (sym at)) ∙ map-append f (take i xs) (x ∷ [])

-- one folder more, whose names are brought to the disk last
pub settled_more : (paths : List (List ℕ)) (path : List ℕ) (before : Calls) → All (λ p. IsSettled p before) paths → All (λ p. IsSettled p (sync_folder path ∷ before)) (paths ++ path ∷ [])
settled_more paths path before all = All-push (λ p. IsSettled p (sync_folder path ∷ before)) paths path (λ k d low. inr (all k d low)) (inl refl)

module _ (has_identity : List ℕ → Identity → Type 0) (folders : StoreFolders) where
  module _ (names : List FileName) where
    -- the paths of the folders of these parts' names, and of no others
    pub record AreFolders (parts : List Part) (paths : List (List ℕ)) : Type 0 where
      pub each : All (λ part. All (IsInOneOf has_identity folders paths) part.names.items) parts
      pub only : All (IsFolderOfOne has_identity folders names) paths

    module _ (parts : List Part) (part : Part) (paths : List (List ℕ)) (are : AreFolders parts paths) where
      -- one more part, which has names
      pub folders_more : IsPartOf has_identity folders names part → (length part.names.items ≡ 0 → ⊥) → AreFolders (parts ++ part ∷ []) (paths ++ part.folder.now ∷ [])
      folders_more right some =
          let path = part.folder.now in
          let first : FileName = get_or part.names.items 0 (FileName.Seg 0 0) in
          let one = right 0 (FileName.Seg 0 0) (omega (arith, some)) in
          let known : Contains names first = one.0 in
          record {
            each = All-push (λ p. All (IsInOneOf has_identity folders (paths ++ path ∷ [])) p.names.items) parts part
                (All-weaker (λ p. All (IsInOneOf has_identity folders paths) p.names.items) (λ p. All (IsInOneOf has_identity folders (paths ++ path ∷ [])) p.names.items)
                (λ p all. All-weaker (IsInOneOf has_identity folders paths) (IsInOneOf has_identity folders (paths ++ path ∷ []))
                (λ n is. Any-append_left (IsFolderOf has_identity folders n) paths (path ∷ []) is) p.names.items all) parts are.each)
                (λ k d low. Any-push (IsFolderOf has_identity folders (get_or part.names.items k d)) paths path (right k d low).1);
            only = All-push (IsFolderOfOne has_identity folders names) paths path are.only (known.0, first, known.1, known.2, one.1);
          }

      -- one more part, which has none
      pub folders_same : length part.names.items ≡ 0 → AreFolders (parts ++ part ∷ []) paths
      folders_same none = record {
        each = All-push (λ p. All (IsInOneOf has_identity folders paths) p.names.items) parts part are.each (λ k d low. absurd (omega (arith, low, none)));
        only = are.only;
      }

    -- the paths of parts that have all names
    pub in_one_of : (parts : List Part) (paths : List (List ℕ)) → AreFolders parts paths → All (IsInPart parts) names → All (IsInOneOf has_identity folders paths) names
    in_one_of parts paths are each = λ k d low.
        let is = each k d low in
        let P : Part → Type 0 = λ part. All (IsInOneOf has_identity folders paths) part.names.items in
        All-contains (IsInOneOf has_identity folders paths) is.1.names.items (get_or names k d) (All-contains P parts is.1 are.each (is.0, is.2, is.3)) is.4

  -- the names in all these folders are on the disk
  pub all_settled : (paths : List (List ℕ)) (names : List FileName) (calls : Calls) → All (IsInOneOf has_identity folders paths) names → All (λ p. IsSettled p calls) paths → AreSettled has_identity folders names calls
  all_settled paths names calls each settled = λ k d low. let is = each k d low in (is.1, is.4, subst (λ p. IsSettled p calls) is.3 (settled is.0 is.1 is.2))
