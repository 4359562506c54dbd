-- The paths of files in folders.
use Rattle.std.specs.Prelude.{ℕ, List, ◌++◌, codes}
use Rattle.cs_schema.specs.FileNames.{file_path}
use Rattle.cs_schema.specs.declared.file_name.FileName.{FileName}

-- the path of what has this name in a folder
abbrev pub path_at : (folder name : List ℕ) → List ℕ
path_at folder name = folder ++ codes "/" ++ name

-- the path of a store's file in a folder
abbrev pub file_at : (folder : List ℕ) → FileName → List ℕ
file_at folder name = path_at folder (file_path name)

-- where a new file stands before it has its name
abbrev pub beside_of : (path : List ℕ) → List ℕ
beside_of path = path ++ codes ".partial"
