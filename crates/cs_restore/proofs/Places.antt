-- The places of a set's files in the order of names, and what stands under each name.
use Rattle.std.proofs.Common.{◌≡◌, ℕ, zero, suc, true, false, cond, List, [], ◌∷◌, Some, map, refl, sym, ap, ◌∙◌, slice_get}
use Rattle.std.specs.FinMap.{entries, find, get-entries}
use Rattle.std.specs.Ordering.{eq_by_cmp}
use Rattle.std.specs.Option.{option_map}
use Rattle.std.proofs.lemmas.Option.{slice_get-map}
use Rattle.cs_schema.specs.declared.file_name.FileName.{FileName}
use Rattle.cs_schema.specs.FileNames.{name_cmp}
use Rattle.cs_store.specs.FileSet.{Files, contents_of}
use Rattle.cs_shelf.proofs.Names.{same_name}

abbrev Entries : Type 0
Entries = List (FileName × List ℕ)

find_here : (e : FileName × List ℕ) (es : Entries) (n : FileName) (b : List ℕ) → eq_by_cmp name_cmp n e.0 ≡ true → find name_cmp n (e ∷ es) ≡ Some b → e ≡ (n, b)
find_here e es n b is found =
    let here : Some e.1 ≡ Some b = sym (ap (λ t. cond t (Some e.1) (find name_cmp n es)) is) ∙ found in
    let name : n ≡ e.0 = same_name n e.0 is in
    let bytes : e.1 ≡ b = cc in
    λ j. (sym name j, bytes j)

find_later : (e : FileName × List ℕ) (es : Entries) (n : FileName) (b : List ℕ) → eq_by_cmp name_cmp n e.0 ≡ false → find name_cmp n (e ∷ es) ≡ Some b → find name_cmp n es ≡ Some b
find_later e es n b is found = sym (ap (λ t. cond t (Some e.1) (find name_cmp n es)) is) ∙ found

find_place : (es : Entries) (n : FileName) (b : List ℕ) → find name_cmp n es ≡ Some b → (i : ℕ) × (slice_get es i ≡ Some (n, b))
find_place [] n b found = absurd (cc)
find_place (e ∷ es) n b found = elim (eq_by_cmp name_cmp n e.0) as (λ t. eq_by_cmp name_cmp n e.0 ≡ t → (i : ℕ) × (slice_get (e ∷ es) i ≡ Some (n, b))) [
  | true ↦ λ is. (zero, ap Some (find_here e es n b is found))
  | false ↦ λ is. let later = find_place es n b (find_later e es n b is found) in (suc later.0, later.1)
] refl

-- what stands under a name has a place among the names
pub has_place : (files : Files) (names : List FileName) (n : FileName) (b : List ℕ) → names ≡ map (λ (file : FileName × List ℕ). file.0) (entries files) → contents_of files n ≡ Some b → (i : ℕ) × (slice_get names i ≡ Some n)
has_place files names n b are e =
    let found = find_place (entries files) n b (sym (get-entries files n) ∙ e) in
    (found.0, ap (λ l. slice_get l found.0) are ∙ slice_get-map (λ (file : FileName × List ℕ). file.0) (entries files) found.0 ∙ ap (option_map (λ (file : FileName × List ℕ). file.0)) found.1)
