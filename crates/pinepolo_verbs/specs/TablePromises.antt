-- What the verbs on tables as CSV do, each by what the places, the store and the output say of one call.
use Rattle.std.specs.Prelude.{◌≡◌, ℕ, List, Option, None, Some, IfSome, MatchOption, Ok}
use Rattle.std.specs.Option.{option_map}
use Rattle.std.specs.FinMap.{entries}
use Rattle.cs_schema.specs.CatalogData.{CatalogData}
use Rattle.cs_schema.specs.FileNames.{surviving}
use Rattle.cs_schema.specs.Losses.{Sites}
use Rattle.cs_schema.specs.declared.file_name.FileName.{FileName}
use Rattle.cs_catalog.specs.Reading.{IsCatalogOf}
use Rattle.cs_store.specs.FileSet.{Files, contents_of}
use Rattle.cs_store.specs.Load.{Loads}
use Rattle.cs_store.specs.Save.{Saves}
use Rattle.cs_tables.specs.Dumping.{IsTableText}
use Rattle.cs_tables.specs.Loading.{LoadsTable}
use Rattle.cs_tables.specs.declared.loading.Loaded.{Loaded}
use Rattle.cs_tables.specs.Relayout.{IsLaidOut}
use Rattle.cs_tables.specs.declared.laying.Relaid.{Relaid}
use Rattle.cs_checking.specs.Checks.{IsFirstFatal}
use Rattle.cs_restoring.specs.Restores.{IsKOrZero}
use Rattle.pinepolo_places.specs.Finding.{FindsStore}
use Rattle.pinepolo_answers.specs.declared.dumped.Dumped.{Dumped}
use Rattle.pinepolo_answers.specs.declared.new_store.NewStore.{NewStore}
use Rattle.cs_shelf.specs.declared.work.WorkKind.{WorkKind}

module _ {P I : Type 0} (opens_table : P → List ℕ → I → P → Type 0) (remaining : I → Option (List ℕ)) where
  -- the CSV at this path was opened, and its rows make these files
  pub record ReadsTable (s : P) (C : CatalogData) (path : List ℕ) (t : P) (loaded : Loaded) : Type 0 where
    pub input : I
    pub opened : opens_table s path input t
    pub loads : LoadsTable C (remaining input) (Ok loaded)

-- what is answered has this catalog, these files and so many rows, and tells how many sites may fail and which loss is fatal first
pub record IsNewStore (C : CatalogData) (files : Files) (rows : ℕ) (store : NewStore) : Type 0 where
  pub same_catalog : store.catalog ≡ C
  pub same_files : store.files ≡ files
  pub same_rows : store.rows ≡ rows
  pub safe : IsKOrZero C store.k
  pub fatal : IsFirstFatal C store.fatal

module _ {P K : Type 0} (begins : P → List ℕ → List ℕ → K → P → Type 0) (takes : K → FileName → List ℕ → K → Type 0) (marks : K → ℕ → K → Type 0) where
  -- a new store of this catalog was begun, and the files were put there in order and marked
  pub record WritesStore (s : P) (path catalog : List ℕ) (files : Files) (t : P) : Type 0 where
    pub sink : K
    pub marked : K
    pub begun : begins s path catalog sink t
    pub saved : Saves takes marks (entries files) sink marked

  -- that was done, and is what is answered
  pub record MakesStore (s : P) (path : List ℕ) (C : CatalogData) (catalog : List ℕ) (files : Files) (rows : ℕ) (store : NewStore) (t : P) : Type 0 where
    pub written : WritesStore s path catalog files t
    pub is : IsNewStore C files rows store

module _ {P I K : Type 0} (reads : P → List ℕ → List ℕ → P → Type 0) (opens_table : P → List ℕ → I → P → Type 0) (remaining : I → Option (List ℕ)) (begins : P → List ℕ → List ℕ → K → P → Type 0) (takes : K → FileName → List ℕ → K → Type 0) (marks : K → ℕ → K → Type 0) where
  -- The catalog was read, and then the CSV: its rows make these files, and are as many as were asked for. Then a store with the catalog's bytes was begun, and
  -- they were put there and marked.
  pub record LoadsStore (s : P) (catalog_path table_path store_path : List ℕ) (records : Option ℕ) (store : NewStore) (t : P) : Type 0 where
    pub catalog : CatalogData
    pub bytes : List ℕ
    pub found : P
    pub opened : P
    pub read : reads s catalog_path bytes found
    pub says : IsCatalogOf bytes catalog
    pub loaded : Loaded
    pub table : ReadsTable opens_table remaining found catalog table_path opened loaded
    pub count : IfSome records (λ n. loaded.rows ≡ n)
    pub makes : MakesStore begins takes marks opened store_path catalog bytes loaded.files loaded.rows store t

module _ {S : Type 0} (gives : S → FileName → Option (List ℕ) → S → Type 0) where
  -- what survives the loss was loaded, and this is the text of the table that it holds
  pub record GivesText (C : CatalogData) (L : Sites) (store : S) (text : List ℕ) (left : S) : Type 0 where
    pub files : Files
    pub loads : Loads gives (surviving C L) store files left
    pub is : IsTableText C (contents_of files) L text

  -- what survives the loss was loaded, and these files hold its table under a new catalog
  pub record LaysOutSurvivors (C : CatalogData) (L : Sites) (store : S) (new : CatalogData) (relaid : Relaid) (left : S) : Type 0 where
    pub files : Files
    pub loads : Loads gives (surviving C L) store files left
    pub is : IsLaidOut C (contents_of files) L new relaid

module _ {P S : Type 0} (reads : P → List ℕ → List ℕ → P → Type 0) (opens : P → List ℕ → CatalogData → S → Type 0) (gives : S → FileName → Option (List ℕ) → S → Type 0) where
  -- the store at this path was loaded without the lost sites, this is the text of the table that it holds, and whether a restore was left unfinished
  pub record ReadsText (leaves : P → List ℕ → Option WorkKind → Type 0) (s : P) (path : List ℕ) (L : Sites) (text : List ℕ) (kind : Option WorkKind) (t : P) : Type 0 where
    pub catalog : CatalogData
    pub store : S
    pub left : S
    pub finds : FindsStore reads opens s path catalog store t
    pub text_given : GivesText gives catalog L store text left
    pub unfinished : leaves t path kind

  -- The store at this path was found, and then the new catalog read. The store was loaded without the lost sites, and these files hold its table under the new catalog.
  pub record LaysOutStore (s : P) (path : List ℕ) (L : Sites) (catalog_path : List ℕ) (new : CatalogData) (bytes : List ℕ) (relaid : Relaid) (t : P) : Type 0 where
    pub catalog : CatalogData
    pub store : S
    pub left : S
    pub found : P
    pub finds : FindsStore reads opens s path catalog store found
    pub read : reads found catalog_path bytes t
    pub says : IsCatalogOf bytes new
    pub laid_out : LaysOutSurvivors gives catalog L store new relaid left

module _ {P : Type 0} (writes_table : P → List ℕ → List ℕ → P → Type 0) where
  -- the text is the answer, or it was written at the path that was asked for
  abbrev pub WritesText : P → List ℕ → Option (List ℕ) → Dumped → P → Type 0
  WritesText s text path dumped t =
      MatchOption path ((option_map (λ v. v.items) dumped.text ≡ Some text) × (t ≡ s)) (λ p. (dumped.text ≡ None) × writes_table s p text t)

module _ {P S : Type 0} (reads : P → List ℕ → List ℕ → P → Type 0) (opens : P → List ℕ → CatalogData → S → Type 0) (gives : S → FileName → Option (List ℕ) → S → Type 0) (leaves : P → List ℕ → Option WorkKind → Type 0) (writes_table : P → List ℕ → List ℕ → P → Type 0) where
  -- The text of the table that the store holds without the lost sites was read; then it was written to the path that was asked for, or is the answer.
  pub record DumpsStore (s : P) (path : List ℕ) (L : Sites) (table_path : Option (List ℕ)) (dumped : Dumped) (t : P) : Type 0 where
    pub text : List ℕ
    pub reached : P
    pub reads_text : ReadsText reads opens gives leaves s path L text dumped.unfinished reached
    pub writes : WritesText writes_table reached text table_path dumped t

module _ {P S K : Type 0} (reads : P → List ℕ → List ℕ → P → Type 0) (opens : P → List ℕ → CatalogData → S → Type 0) (gives : S → FileName → Option (List ℕ) → S → Type 0) (begins : P → List ℕ → List ℕ → K → P → Type 0) (takes : K → FileName → List ℕ → K → Type 0) (marks : K → ℕ → K → Type 0) where
  -- The files hold the table of the store without the lost sites, under the new catalog. Then a store with that catalog's bytes was begun, and they were put there and marked.
  pub record RelaysStore (s : P) (path : List ℕ) (L : Sites) (catalog_path new_path : List ℕ) (store : NewStore) (t : P) : Type 0 where
    pub catalog : CatalogData
    pub bytes : List ℕ
    pub relaid : Relaid
    pub reached : P
    pub lays_out : LaysOutStore reads opens gives s path L catalog_path catalog bytes relaid reached
    pub makes : MakesStore begins takes marks reached new_path catalog bytes relaid.files relaid.rows store t
