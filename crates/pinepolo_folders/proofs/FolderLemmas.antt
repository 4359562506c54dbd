-- The folders of a store, one by one.
use Rattle.std.proofs.Common.{◌≡◌, ◌⊎◌, ℕ, zero, suc, ◌+◌, ◌<◌, List, [], ◌∷◌, ◌++◌, length, Option, Some, None, slice_get, refl, sym, ap, subst, ◌∙◌, inl, inr, arith, string_bytes}
use Rattle.std.specs.BTreeMap.{BTreeMap, get}
use Rattle.std.specs.Option.{IfSome}
use Rattle.std.proofs.lemmas.Bool.{cases_lt}
use Rattle.std.proofs.lemmas.Option.{none-some, same_Some}
use Rattle.cs_schema.specs.FileNames.{name_cmp}
use Rattle.cs_schema.specs.declared.file_name.FileName.{FileName}
use Rattle.cs_file_system.specs.System.{system_no_link}
use Rattle.cs_folders.specs.Paths.{file_at}
use Rattle.cs_folder_work.specs.declared.store_folders.OtherFolder.{OtherFolder}
use Rattle.pinepolo_folders.specs.Folders.{AreSiteFolders, IsLinkNoted, IsSiteFolder}
use Rattle.pinepolo_folders.specs.declared.sites.SiteFolders.{SiteFolders}

-- what stands in a list that got one more item: what stood there before, or that item
pushed : {X : Type 0} (xs : List X) (x y : X) (k : ℕ) → slice_get (xs ++ x ∷ []) k ≡ Some y → (slice_get xs k ≡ Some y) ⊎ ((k ≡ length xs) × (x ≡ y))
pushed [] x y zero h = inr (refl, same_Some x y h)
pushed [] x y (suc k) h = absurd (none-some y h)
pushed (z ∷ zs) x y zero h = inl h
pushed (z ∷ zs) x y (suc k) h = elim (pushed zs x y k h) [ inl before ↦ inl before | inr last ↦ inr (ap suc last.0, last.1) ]

-- one more folder, which is that of the next site
pub folders_more : (sites : SiteFolders) (others : List (Option OtherFolder)) (next : Option OtherFolder) → AreSiteFolders sites others
    → IfSome next (λ other. IsSiteFolder sites (length others + 1) (string_bytes other.path)) → AreSiteFolders sites (others ++ next ∷ [])
folders_more sites others next each one = λ k other is. elim (pushed others next (Some other) k is) [
  | inl before ↦ each k other before
  | inr last ↦
      (let here : IsSiteFolder sites (length others + 1) (string_bytes other.path) = subst (λ (o : Option OtherFolder). IfSome o (λ other. IsSiteFolder sites (length others + 1) (string_bytes other.path))) last.1 one in
      subst (λ n. IsSiteFolder sites (n + 1) (string_bytes other.path)) (sym last.0) here)
]

-- one more name, which has a place or is no link
pub links_more : (store : List ℕ) (names : List FileName) (i : ℕ) (name : FileName) (old new : BTreeMap FileName ℕ) → slice_get names i ≡ Some name
    → ((k : ℕ) (n : FileName) → k < i → slice_get names k ≡ Some n → get name_cmp old n ≡ None → system_no_link (file_at store n)) → IsLinkNoted store name old new
    → (k : ℕ) (n : FileName) → k < i + 1 → slice_get names k ≡ Some n → get name_cmp new n ≡ None → system_no_link (file_at store n)
links_more store names i name old new at first noted = λ k n less is none. elim (cases_lt k i) [
  | inl below ↦ first k n below is (noted.kept n none)
  | inr above ↦
      (let same : i ≡ k = omega (arith, less, above) in
      let one : name ≡ n = same_Some name n (sym at ∙ ap (slice_get names) same ∙ is) in
      subst (λ m. system_no_link (file_at store m)) one (noted.noted (subst (λ m. get name_cmp new m ≡ None) (sym one) none)))
]
