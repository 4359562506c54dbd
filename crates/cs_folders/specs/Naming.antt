-- A new store whose files get their names, then the copies of its catalog, and last its folder.
use Rattle.std.specs.Prelude.{◌≡◌, ◌<◌, ℕ, List, [], ◌∷◌, ◌++◌, Some, codes, length, slice_get, string_bytes}
use Rattle.cs_schema.specs.declared.file_name.FileName.{FileName}
use Rattle.cs_file_system.specs.Calls.{Calls, WasCalled, create, rename, see, sync}
use Rattle.cs_file_system.specs.Placing.{folder_put}
use Rattle.cs_folders.specs.Paths.{beside_of, file_at, path_at}
use Rattle.cs_folders.specs.declared.new_site.NewSite.{NewSite}

-- a new file is seen, brought to the disk, and then gets its name
abbrev pub file_named : List ℕ → Calls
file_named path = rename (beside_of path) path ∷ sync (beside_of path) ∷ create (beside_of path) ∷ see (beside_of path) ∷ []

-- a new file got this name
abbrev pub WasNamed : List ℕ → Calls → Type 0
WasNamed path calls = WasCalled (rename (beside_of path) path) calls

-- the first of these files of a folder were named
abbrev pub AreNamed : (folder : List ℕ) → List FileName → ℕ → Calls → Type 0
AreNamed folder names count calls = (k : ℕ) (name : FileName) → k < count → slice_get names k ≡ Some name → WasNamed (file_at folder name) calls

-- all files of the first of these sites were named
abbrev pub AreSitesNamed : List NewSite → ℕ → Calls → Type 0
AreSitesNamed sites count calls = (k : ℕ) (site : NewSite) → k < count → slice_get sites k ≡ Some site → AreNamed (string_bytes site.path) site.names.items (length site.names.items) calls

-- the copy of the catalog in a folder
abbrev pub catalog_at : (folder : List ℕ) → List ℕ
catalog_at folder = path_at folder (codes "catalog.toml")

-- all files of the sites were named, and after that the copies of the catalog of the first of them
pub record AreWhole (sites : List NewSite) (count : ℕ) (calls : Calls) : Type 0 where
  pub before : Calls
  pub later : Calls
  pub last : calls ≡ later ++ before
  pub files : AreSitesNamed sites (length sites) before
  pub catalogs : (k : ℕ) (site : NewSite) → k < count → slice_get sites k ≡ Some site → WasNamed (catalog_at (string_bytes site.path)) later

-- the folder of a store got its name, after the files of its sites and the copies of the catalog had theirs
pub record IsStoreNamed (sites : List NewSite) (beside path : List ℕ) (calls : Calls) : Type 0 where
  pub before : Calls
  pub last : calls ≡ folder_put beside path (path_at path (codes "..")) ++ before
  pub whole : AreWhole sites (length sites) before
