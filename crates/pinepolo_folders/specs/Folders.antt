-- In which folder each file of a store stands.
use Rattle.std.specs.Prelude.{◌≡◌, ◌-◌, ◌+◌, ◌≤◌, ℕ, false, List, [], Option, Some, None, option_map, slice_get, string_bytes}
use Rattle.std.specs.BTreeMap.{BTreeMap, get}
use Rattle.cs_schema.specs.CatalogData.{CatalogData}
use Rattle.cs_schema.specs.FileNames.{name_cmp, surviving}
use Rattle.cs_schema.specs.Lists.{member}
use Rattle.cs_schema.specs.declared.file_name.FileName.{FileName}
use Rattle.cs_file_system.specs.System.{system_no_link}
use Rattle.cs_folders.specs.Paths.{file_at}
use Rattle.cs_sites.specs.Routing.{routes_of}
use Rattle.cs_folder_work.specs.Folders.{number_in}
use Rattle.cs_folder_work.specs.declared.store_folders.OtherFolder.{OtherFolder}
use Rattle.cs_folder_work.specs.declared.store_folders.Places.TheVariants.{Sites}
use Rattle.cs_folder_work.specs.declared.store_folders.StoreFolders.{StoreFolders}
use Rattle.pinepolo_folders.specs.declared.sites.SiteFolders.{SiteFolders}

-- the folder of a site is at this path, and is not away
pub record IsSiteFolder (sites : SiteFolders) (site : ℕ) (path : List ℕ) : Type 0 where
  pub there : 1 ≤ site → site ≤ 16 → member sites.away site ≡ false
  pub named : option_map string_bytes (slice_get sites.folders.items (site - 1)) ≡ Some path

-- these are folders of the sites from 1, in their order; none for one that is away
abbrev pub AreSiteFolders : SiteFolders → List (Option OtherFolder) → Type 0
AreSiteFolders sites others = (k : ℕ) (other : OtherFolder) → slice_get others k ≡ Some (Some other) → IsSiteFolder sites (k + 1) (string_bytes other.path)

-- each file of a site stands in the folder of its site, and all else in the store's
pub record AreOfSites (sites : SiteFolders) (C : CatalogData) (store : List ℕ) (folders : StoreFolders) : Type 0 where
  pub home : string_bytes folders.store ≡ store
  pub places : folders.places ≡ Sites (routes_of C)
  pub others : AreSiteFolders sites folders.others.items

-- a name got a place, or no link was seen there; no other name lost its own
pub record IsLinkNoted (store : List ℕ) (name : FileName) (old new : BTreeMap FileName ℕ) : Type 0 where
  pub noted : get name_cmp new name ≡ None → system_no_link (file_at store name)
  pub kept : (other : FileName) → get name_cmp new other ≡ None → get name_cmp old other ≡ None

-- no link was seen under a name of the catalog whose file stands in the store's folder
pub record AreOfLinks (C : CatalogData) (store : List ℕ) (folders : StoreFolders) : Type 0 where
  pub home : string_bytes folders.store ≡ store
  pub links : (k : ℕ) (name : FileName) → slice_get (surviving C []) k ≡ Some name → number_in folders.places name ≡ None → system_no_link (file_at store name)
