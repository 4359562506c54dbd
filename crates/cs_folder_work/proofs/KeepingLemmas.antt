-- What became of names stays so as more is called.
use Rattle.std.proofs.Common.{◌+◌, ◌<◌, ℕ, List, [], ◌∷◌, ◌++◌, length, get_or, take, sym, subst, inl, inr}
use Rattle.std.proofs.lemmas.List.{take_more}
use Rattle.std.specs.List.{AllZip}
use Rattle.cs_schema.specs.declared.file_name.FileName.{FileName}
use Rattle.cs_file_system.specs.Calls.{Call, Calls, WasCalled, keep, miss, same, see}
use Rattle.cs_folders.specs.Paths.{file_at}
use Rattle.cs_folder_work.specs.Keeping.{Become, Becomes, WasSeen}
use Rattle.cs_folder_work.specs.declared.record.Change.{Change}
use Rattle.cs_folder_work.specs.declared.record.Change.TheVariants.{New, Replaces}

zip_push : {A B : Type 0} (R : A → B → Type 0) (xs : List A) (ys : List B) (x : A) (y : B) → AllZip R xs ys → R x y → AllZip R (xs ++ x ∷ []) (ys ++ y ∷ [])
zip_push R [] [] x y all one = (one, tt)
zip_push R [] (z ∷ zs) x y all one = absurd all
zip_push R (z ∷ zs) [] x y all one = absurd all
zip_push R (v ∷ vs) (z ∷ zs) x y all one = (all.0, zip_push R vs zs x y all.1 one)

module _ (before calls : Calls) (more : (call : Call) → WasCalled call before → WasCalled call calls) where
  seen_still : (change : Change) (kept : List ℕ) → WasSeen change kept before → WasSeen change kept calls
  seen_still New kept seen = more (miss kept) seen
  seen_still Replaces kept seen = more (see kept) seen

  still : (change : Change) (path kept : List ℕ) → Becomes change path kept before → Becomes change path kept calls
  still change path kept became = elim became [
    | inl named ↦ inl (elim named.0 [ inl linked ↦ inl (more (keep path kept) linked) | inr found ↦ inr (more (same path kept) found) ], named.1)
    | inr gone ↦ inr (more (miss path) gone.0, seen_still change kept gone.1)
  ]

  all_still : (store folder : List ℕ) (names : List FileName) (changes : List Change) → Become store folder names changes before → Become store folder names changes calls
  all_still store folder [] [] became = tt
  all_still store folder [] (c ∷ cs) became = absurd became
  all_still store folder (n ∷ ns) [] became = absurd became
  all_still store folder (n ∷ ns) (c ∷ cs) became = (still c (file_at store n) (file_at folder n) became.0, all_still store folder ns cs became.1)

  -- one name more
  pub one_more : (store folder : List ℕ) (names : List FileName) (i : ℕ) (d : FileName) (changes : List Change) (change : Change) → i < length names → Become store folder (take i names) changes before
      → Becomes change (file_at store (get_or names i d)) (file_at folder (get_or names i d)) calls → Become store folder (take (i + 1) names) (changes ++ change ∷ []) calls
  one_more store folder names i d changes change within first one =
      subst (λ ns. Become store folder ns (changes ++ change ∷ []) calls) (sym (take_more names i d within)) (
      zip_push (λ name change. Becomes change (file_at store name) (file_at folder name) calls) (take i names) changes (get_or names i d) change (all_still store folder (take i names) changes first) one)
