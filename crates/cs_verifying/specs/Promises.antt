-- What the verbs on manifests do, each by what the places and the store say of one call.
use Rattle.std.specs.Prelude.{◌≡◌, ◌==◌, ◌≤◌, ◌+◌, ℕ, not, List, [], length, Option, None, Some, IfSome, Ok}
use Rattle.cs_schema.specs.CatalogData.{CatalogData}
use Rattle.cs_schema.specs.FileNames.{surviving}
use Rattle.cs_schema.specs.Lists.{member}
use Rattle.cs_schema.specs.Losses.{Sites}
use Rattle.cs_schema.specs.declared.file_name.FileName.{FileName}
use Rattle.cs_store.specs.declared.fault.StoreFault.{StoreFault}
use Rattle.cs_manifest.specs.Comparisons.{AreDifferences}
use Rattle.cs_manifest.specs.Digests.{digest, DigestsFiles}
use Rattle.cs_manifest.specs.Lines.{manifest_text}
use Rattle.cs_manifest.specs.Reading.{IsReading}
use Rattle.cs_manifest.specs.declared.digesting.Digested.{Digested}
use Rattle.cs_manifest.specs.declared.manifest.Manifest.{Manifest}
use Rattle.pinepolo_places.specs.Finding.{FindsStoreText}
use Rattle.pinepolo_answers.specs.declared.listed.Listed.{Listed}
use Rattle.pinepolo_answers.specs.declared.verified.Verified.{Verified}

-- the loss is that of each site but this one; without a site it is none
abbrev pub AreOthers : Option ℕ → Sites → Type 0
AreOthers None lost = lost ≡ []
AreOthers (Some n) lost = (s : ℕ) → 1 ≤ s → s ≤ 16 → member lost s ≡ not (s == n)

-- bytes are those that a stream had left, where these are known
abbrev pub AreAllOf : Option (List ℕ) → List ℕ → Type 0
AreAllOf known bytes = (text : List ℕ) → known ≡ Some text → bytes ≡ text

module _ {P I : Type 0} (opens_table : P → List ℕ → I → P → Type 0) (remaining : I → Option (List ℕ)) where
  -- the text at this path was opened and read, and is this manifest
  pub record ReadsManifest (s : P) (path : List ℕ) (manifest : Manifest) (t : P) : Type 0 where
    pub input : I
    pub bytes : List ℕ
    pub opened : opens_table s path input t
    pub all : AreAllOf (remaining input) bytes
    pub says : IsReading bytes (Ok manifest)

module _ {P S : Type 0} (reads : P → List ℕ → List ℕ → P → Type 0) (opens : P → List ℕ → CatalogData → S → Type 0) (gives : S → FileName → Option (List ℕ) → S → Type 0) (refuses : S → FileName → StoreFault → S → Type 0) where
  -- The store at this path was found, whose catalog has these bytes. Each of its files was read, or each of this site alone, and came to this.
  pub record DigestsStore (s : P) (path : List ℕ) (site : Option ℕ) (C : CatalogData) (catalog : List ℕ) (files : List (FileName × Digested)) (t : P) : Type 0 where
    pub store : S
    pub left : S
    pub lost : Sites
    pub others : AreOthers site lost
    pub has_site : IfSome site (λ n. n ≤ C.sites)
    pub finds : FindsStoreText reads opens s path C catalog store t
    pub digests : DigestsFiles gives refuses (surviving C lost) store files left

  -- the files of the store were read, or those of this site alone, and the text is the manifest of what they came to
  pub record ListsStore (s : P) (path : List ℕ) (site : Option ℕ) (listed : Listed) (t : P) : Type 0 where
    pub catalog : List ℕ
    pub digests : DigestsStore s path site listed.catalog catalog listed.files.items t
    pub text : listed.text.items ≡ manifest_text (digest catalog) listed.files.items

  -- The manifest was read, and then the files of the store, or those of this site alone; these are the differences, among so many files with the catalog.
  pub record VerifiesStore {I : Type 0} (opens_table : P → List ℕ → I → P → Type 0) (remaining : I → Option (List ℕ)) (s : P) (path manifest_path : List ℕ) (site : Option ℕ) (verified : Verified) (t : P) : Type 0 where
    pub manifest : Manifest
    pub catalog : List ℕ
    pub files : List (FileName × Digested)
    pub reached : P
    pub reads_manifest : ReadsManifest opens_table remaining s manifest_path manifest reached
    pub digests : DigestsStore reached path site verified.catalog catalog files t
    pub compared : AreDifferences manifest (digest catalog) files verified.comparison
    pub count : verified.files ≡ length files + 1
