-- Names in the parts of their folders.
use Rattle.std.proofs.Common.{◌≡◌, ◌⊎◌, ℕ, List, [], ◌∷◌, ◌++◌, Option, Some, None, inl, inr, get_or, refl, sym, subst, ap, nat_eq, false, not}
use Rattle.std.proofs.lemmas.Bool.{eqb-true, not-false}
use Rattle.std.proofs.lemmas.List.Elements.{All-contains, All-contains_itself, All-nil, All-push, All-weaker, Contains-append_left, Contains-push}
use Rattle.std.proofs.lemmas.List.Quantifiers.{Any-push}
use Rattle.std.proofs.lemmas.List.Sorted.{Contains-permutation, IsPermutation-sym}
use Rattle.std.specs.Option.{option_eq}
use Rattle.std.specs.List.{All, Any, Contains}
use Rattle.std.specs.List.Sorted.{IsPermutation}
use Rattle.cs_schema.proofs.Ascending.{false≢true}
use Rattle.cs_schema.specs.declared.file_name.FileName.{FileName}
use Rattle.cs_file_system.specs.declared.identity.Identity.{Identity}
use Rattle.cs_folder_work.specs.Folders.{IsFolderOf, IsInPart, IsPartOf}
use Rattle.cs_folder_work.specs.declared.store_folders.Part.{Part}
use Rattle.cs_folder_work.specs.declared.store_folders.StoreFolders.{StoreFolders}

-- a test of whether two numbers of folders differ
pub same_number : (a b : Option ℕ) → false ≡ not (option_eq nat_eq a b) → a ≡ b
same_number None None is = refl
same_number None (Some y) is = false≢true is
same_number (Some x) None is = false≢true is
same_number (Some x) (Some y) is = ap Some (eqb-true x y (not-false (nat_eq x y) (sym is)))

module _ {X : Type 0} (xs ys : List X) (moved : IsPermutation xs ys) where
  -- what each of the moved elements has, each has
  pub All-moved : (P : X → Type 0) → All P ys → All P xs
  All-moved P all = λ k d low. All-contains P ys (get_or xs k d) all (Contains-permutation xs ys (get_or xs k d) moved (All-contains_itself xs k d low))

  -- each of the moved elements is one
  pub all_known : All (Contains xs) ys
  all_known = λ k d low. Contains-permutation ys xs (get_or ys k d) (IsPermutation-sym xs ys moved) (All-contains_itself ys k d low)

pub Any-append_left : {X : Type 0} (P : X → Type 0) (xs ys : List X) → Any P xs → Any P (xs ++ ys)
Any-append_left P xs ys any =
    let has = Contains-append_left xs ys any.1 (any.0, any.2, any.3) in (has.0, any.1, has.1, has.2, any.4)

-- a name of these parts, or of the last one
in_either : (parts : List Part) (last : Part) (name : FileName) → IsInPart parts name ⊎ Contains last.names.items name → IsInPart (parts ++ last ∷ []) name
in_either parts last name (inl is) = Any-append_left (λ part. Contains part.names.items name) parts (last ∷ []) is
in_either parts last name (inr has) = Any-push (λ part. Contains part.names.items name) parts last has

module _ (has_identity : List ℕ → Identity → Type 0) (folders : StoreFolders) (names : List FileName) where
  -- these names are in parts, or in the last one, which grows
  pub record AreParted (done : List FileName) (parts : List Part) (last : Part) : Type 0 where
    pub right : All (IsPartOf has_identity folders names) parts
    pub growing : IsPartOf has_identity folders names last
    pub each : All (λ name. IsInPart parts name ⊎ Contains last.names.items name) done

  module _ (done : List FileName) (parts : List Part) (last next : Part) (parted : AreParted done parts last) where
    -- the last part is whole, and one with no names begins
    pub parted_part : next.names.items ≡ [] → AreParted done (parts ++ last ∷ []) next
    parted_part empty = record {
      right = All-push (IsPartOf has_identity folders names) parts last parted.right parted.growing;
      growing = subst (All (λ name. Contains names name × IsFolderOf has_identity folders name next.folder.now)) (sym empty) (All-nil _);
      each = All-weaker (λ name. IsInPart parts name ⊎ Contains last.names.items name) (λ name. IsInPart (parts ++ last ∷ []) name ⊎ Contains next.names.items name)
          (λ name is. inl (in_either parts last name is)) done parted.each;
    }

    -- the last part has one name more
    pub parted_name : (name : FileName) → Contains names name → IsFolderOf has_identity folders name last.folder.now → next.folder.now ≡ last.folder.now
        → next.names.items ≡ last.names.items ++ name ∷ [] → AreParted (done ++ name ∷ []) parts next
    parted_name name known at same grown =
        let Is : FileName → Type 0 = λ n. Contains names n × IsFolderOf has_identity folders n last.folder.now in
        let more : All Is next.names.items = subst (All Is) (sym grown) (All-push Is last.names.items name parted.growing (known, at)) in
        let has : Contains next.names.items name = subst (λ ns. Contains ns name) (sym grown) (Contains-push last.names.items name) in
        record {
          right = parted.right;
          growing = subst (λ path. All (λ n. Contains names n × IsFolderOf has_identity folders n path) next.names.items) (sym same) more;
          each = All-push (λ n. IsInPart parts n ⊎ Contains next.names.items n) done name
              (All-weaker (λ n. IsInPart parts n ⊎ Contains last.names.items n) (λ n. IsInPart parts n ⊎ Contains next.names.items n)
              (λ n is. elim is [ inl old ↦ inl old | inr old ↦ inr (subst (λ ns. Contains ns n) (sym grown) (Contains-append_left last.names.items (name ∷ []) n old)) ]) done parted.each)
              (inr has);
        }

  -- the parts with the last one have all these names
  pub parted_all : (done : List FileName) (parts : List Part) (last : Part) → AreParted done parts last → All (IsInPart (parts ++ last ∷ [])) done
  parted_all done parts last parted =
      All-weaker (λ name. IsInPart parts name ⊎ Contains last.names.items name) (IsInPart (parts ++ last ∷ [])) (in_either parts last) done parted.each
