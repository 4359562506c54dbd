-- How many of the files of a recovery are written.
use Rattle.std.specs.Prelude.{◌≡◌}
use Rattle.cs_schema.specs.declared.file_name.FileName.{FileName}
use Rattle.cs_schema.specs.FileNames.{FileContents}
use Rattle.cs_store.specs.FileSet.{Files, contents_of}

-- the file under this name is the one that has to be there
abbrev pub HasWritten : FileContents → Files → FileName → Type 0
HasWritten all out n = contents_of out n ≡ all n

-- a file that was the one that has to be there still is
abbrev pub KeepsWritten : FileContents → Files → Files → Type 0
KeepsWritten all old new = (n : FileName) → HasWritten all old n → HasWritten all new n
