-- In which folder each file of a store stands.
use Rattle.std.specs.Prelude.{◌≡◌, ◌⊎◌, ◌-◌, ℕ, List, Option, IsSome, IsSomeAnd, MatchOption, option_and_then, option_map, slice_get, string_bytes}
use Rattle.std.specs.List.{All, Any, Contains}
use Rattle.std.specs.BTreeMap.{get}
use Rattle.std.specs.IoError.{error_kind}
use Rattle.std.specs.declared.io.Error.{Error}
use Rattle.std.specs.declared.io.ErrorKind.TheVariants.{NotConnected, OutOfMemory}
use Rattle.cs_schema.specs.FileNames.{name_cmp}
use Rattle.cs_schema.specs.declared.file_name.FileName.{FileName}
use Rattle.cs_file_system.specs.Calls.{Calls, IsSettled}
use Rattle.cs_file_system.specs.declared.identity.Identity.{Identity}
use Rattle.cs_sites.specs.Routing.{site_of}
use Rattle.cs_folder_work.specs.declared.store_folders.OtherFolder.{OtherFolder}
use Rattle.cs_folder_work.specs.declared.store_folders.Part.{Part}
use Rattle.cs_folder_work.specs.declared.store_folders.Places.{Places}
use Rattle.cs_folder_work.specs.declared.store_folders.Places.TheVariants.{Links, Sites}
use Rattle.cs_folder_work.specs.declared.store_folders.StoreFolders.{StoreFolders}

-- the number of the folder of a name's file; none if that is the store's
abbrev pub number_in : Places → FileName → Option ℕ
number_in (Sites routes) name = option_map (λ site. site - 1) (site_of routes name)
number_in (Links numbers) name = get name_cmp numbers name

-- the folder with this number, if it is not away
abbrev pub other_at : StoreFolders → ℕ → Option OtherFolder
other_at folders number = option_and_then (λ other. other) (slice_get folders.others.items number)

-- a name's file doesn't stand in the store's folder
abbrev pub IsOutside : StoreFolders → FileName → Type 0
IsOutside folders name = IsSome (number_in folders.places name)

-- names are refused: memory is, or one of them stands in another folder than the store's, which is away
abbrev pub AreRefused : StoreFolders → List FileName → Error → Type 0
AreRefused folders names error = (error_kind error ≡ OutOfMemory) ⊎ ((error_kind error ≡ NotConnected) × Any (IsOutside folders) names)

-- one of these parts has the name
abbrev pub IsInPart : List Part → FileName → Type 0
IsInPart parts name = Any (λ part. Contains part.names.items name) parts

module _ (has_identity : List ℕ → Identity → Type 0) (folders : StoreFolders) where
  -- the folder with this number is at this path, and was found there again
  abbrev pub IsOther : ℕ → List ℕ → Type 0
  IsOther number path = IsSomeAnd (other_at folders number) (λ other. (path ≡ string_bytes other.path) × has_identity path other.identity)

  -- the folder with this number, or the store's if there is none, is at this path
  abbrev pub IsFolderAt : Option ℕ → List ℕ → Type 0
  IsFolderAt number path = MatchOption number (path ≡ string_bytes folders.store) (λ other. IsOther other path)

  -- the folder of a name's file is at this path: the store's, or another one, which was found there again
  abbrev pub IsFolderOf : FileName → List ℕ → Type 0
  IsFolderOf name path = IsFolderAt (number_in folders.places name) path

  -- each name of a part is one of these, and has its file in the part's folder
  abbrev pub IsPartOf : List FileName → Part → Type 0
  IsPartOf names part = All (λ name. Contains names name × IsFolderOf name part.folder.now) part.names.items

  -- the folder of the file of one of these names is at this path
  abbrev pub IsFolderOfOne : List FileName → List ℕ → Type 0
  IsFolderOfOne names path = Any (λ name. IsFolderOf name path) names

  -- one of these paths is that of the folder of a name's file
  abbrev pub IsInOneOf : List (List ℕ) → FileName → Type 0
  IsInOneOf paths name = Any (IsFolderOf name) paths

  -- the names in the folders of these names' files were brought to the disk, and none was given or taken away since
  abbrev pub AreSettled : List FileName → Calls → Type 0
  AreSettled names calls = All (λ name. (path : List ℕ) × IsFolderOf name path × IsSettled path calls) names
