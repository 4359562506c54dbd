-- Files of which a manifest says another digest, each by what the source says of one read.
use Rattle.std.specs.Prelude.{◌≡◌, ◌⊎◌, ℕ, Bool, true, List, [], ◌∷◌, Option, Some, MatchBool}
use Rattle.cs_schema.specs.CatalogData.{CatalogData}
use Rattle.cs_schema.specs.FileNames.{HasName, file_path}
use Rattle.cs_schema.specs.declared.file_name.FileName.{FileName}
use Rattle.cs_store.specs.declared.fault.StoreFault.{StoreFault}
use Rattle.cs_inspection.specs.BadFiles.{IsFileOf}
use Rattle.cs_manifest.specs.declared.manifest.Manifest.{Manifest}
use Rattle.cs_verifying.specs.Trust.{is_changed, gives_trusted}
use Rattle.pinepolo_answers.specs.declared.changed.ChangedFile.{ChangedFile}

-- whether the bytes are no file of this name of the catalog
abbrev pub TellsDamage : CatalogData → FileName → List ℕ → Bool → Type 0
TellsDamage C n bytes is_damaged = HasName C n → MatchBool is_damaged (¬ IsFileOf C n bytes) (IsFileOf C n bytes)

module _ {S : Type 0} (C : CatalogData) (m : Manifest) (gives : S → FileName → Option (List ℕ) → S → Type 0) (refuses : S → FileName → StoreFault → S → Type 0) (s : S) where
  -- a read of this name gave bytes of which the manifest says another digest, and this is said of them
  pub record IsChanged (n : FileName) (file : ChangedFile) : Type 0 where
    pub bytes : List ℕ
    pub given : gives s n (Some bytes) s
    pub other : is_changed m (file_path n) bytes ≡ true
    pub name : file.name ≡ n
    pub damaged : TellsDamage C n bytes file.is_damaged

  -- a read was refused, or the manifest says no other digest of what it gave
  abbrev pub IsUnchanged : FileName → Type 0
  IsUnchanged n = ((fault : StoreFault) × refuses s n fault s) ⊎ ((file : Option (List ℕ)) × gives_trusted m gives s n file s)

  -- each of these names was read, and just these of the files are changed, in the same order
  abbrev pub AreChanged : List FileName → List ChangedFile → Type 0
  AreChanged [] changed = changed ≡ []
  AreChanged (n ∷ names) changed = (IsUnchanged n × AreChanged names changed)
      ⊎ ((file : ChangedFile) × (others : List ChangedFile) × (changed ≡ file ∷ others) × IsChanged n file × AreChanged names others)
