-- The changed files among names, as one more is read.
use Rattle.std.proofs.Common.{inl, inr, ℕ, List, [], ◌∷◌, ◌++◌, Option, refl, ap}
use Rattle.cs_schema.specs.CatalogData.{CatalogData}
use Rattle.cs_schema.specs.declared.file_name.FileName.{FileName}
use Rattle.cs_store.specs.declared.fault.StoreFault.{StoreFault}
use Rattle.cs_manifest.specs.declared.manifest.Manifest.{Manifest}
use Rattle.pinepolo_answers.specs.declared.changed.ChangedFile.{ChangedFile}
use Rattle.pinepolo_verbs.specs.Changed.{IsChanged, IsUnchanged, AreChanged}

module _ {S : Type 0} (C : CatalogData) (m : Manifest) (gives : S → FileName → Option (List ℕ) → S → Type 0) (refuses : S → FileName → StoreFault → S → Type 0) (s : S) (n : FileName) where
  pub one_changed : (file : ChangedFile) → IsChanged C m gives refuses s n file → (names : List FileName) (changed : List ChangedFile) → AreChanged C m gives refuses s names changed
      → AreChanged C m gives refuses s (names ++ n ∷ []) (changed ++ file ∷ [])
  one_changed file is [] changed none = inr (file, [], ap (λ (cs : List ChangedFile). cs ++ file ∷ []) none, is, refl)
  one_changed file is (x ∷ names) changed (inl rest) = inl (rest.0, one_changed file is names changed rest.1)
  one_changed file is (x ∷ names) changed (inr rest) = inr (rest.0, rest.1 ++ file ∷ [], ap (λ (cs : List ChangedFile). cs ++ file ∷ []) rest.2, rest.3, one_changed file is names rest.1 rest.4)

  pub one_unchanged : IsUnchanged C m gives refuses s n → (names : List FileName) (changed : List ChangedFile) → AreChanged C m gives refuses s names changed
      → AreChanged C m gives refuses s (names ++ n ∷ []) changed
  one_unchanged is [] changed none = inl (is, none)
  one_unchanged is (x ∷ names) changed (inl rest) = inl (rest.0, one_unchanged is names changed rest.1)
  one_unchanged is (x ∷ names) changed (inr rest) = inr (rest.0, rest.1, rest.2, rest.3, one_unchanged is names rest.1 rest.4)
