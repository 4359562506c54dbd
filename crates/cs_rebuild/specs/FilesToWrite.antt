-- The files that a recovery writes, by name.
use Rattle.std.specs.Prelude.{◌≡◌, ℕ, Bool, true, false, not, ◌&&◌, ◌++◌, List, [], All, Some, map}
use Rattle.std.specs.Global.{Vec}
use Rattle.std.specs.List.{filter}
use Rattle.cs_schema.specs.declared.file_name.FileName.{FileName}
use Rattle.cs_schema.specs.CatalogData.{CatalogData}
use Rattle.cs_schema.specs.FileNames.{surviving}
use Rattle.cs_schema.specs.Losses.{Sites}
use Rattle.cs_recovery.specs.Expected.{is_affected, is_lost}
use Rattle.cs_rebuild.specs.OnStore.{written_on}
use Rattle.cs_rebuild.specs.declared.ordered_store.OrderedStore.{OrderedStore}

-- a recovery writes the file of this name
abbrev pub is_written : CatalogData → Sites → FileName → Bool
is_written C L (FileName.Seg p s) = is_lost C L p s
is_written C L (FileName.Del p s) = is_lost C L p s
is_written C L (FileName.Jix p s q) = is_affected C L p s q

-- the file is a join index, or it is another file and those are meant
abbrev pub is_among : Bool → FileName → Bool
is_among joins (FileName.Seg p s) = not joins
is_among joins (FileName.Del p s) = not joins
is_among joins (FileName.Jix p s q) = joins

-- a recovery writes the file, and it is among those that are meant
abbrev pub is_listed : CatalogData → Sites → Bool → FileName → Bool
is_listed C L joins n = is_among joins n && is_written C L n

-- the join indexes that a recovery writes, or the other files: of all names of the catalog those that are listed
abbrev pub files_to_write : CatalogData → Sites → Bool → List FileName
files_to_write C L joins = filter (is_listed C L joins) (surviving C [])

-- all files that a recovery writes
abbrev pub all_files : CatalogData → Sites → List FileName
all_files C L = files_to_write C L false ++ files_to_write C L true

-- the file of that name, with the bytes to write
pub record IsFileOf (g : OrderedStore) (wanted : FileName) (file : FileName × Vec ℕ) : Type 0 where
  pub name_is : file.0 ≡ wanted
  pub text_is : written_on g file.0 ≡ Some file.1.items

-- the files of these names, with the bytes to write
pub record AreMade (g : OrderedStore) (names : List FileName) (files : List (FileName × Vec ℕ)) : Type 0 where
  pub named : map (λ file. file.0) files ≡ names
  pub texts : All (λ file. written_on g file.0 ≡ Some file.1.items) files
