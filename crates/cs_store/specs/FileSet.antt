-- A file set: a finite map from names to bytes, in the order of names.
use Rattle.std.specs.Prelude.{ℕ, List, map}
use Rattle.std.specs.Global.{Vec}
use Rattle.std.specs.FinMap.{FinMap, get}
use Rattle.cs_schema.specs.declared.file_name.FileName.{FileName}
use Rattle.cs_schema.specs.FileNames.{FileContents, name_cmp}

-- a file set, as contracts see it
abbrev pub Files : Type 0
Files = FinMap name_cmp (List ℕ)

-- what stands under each name
abbrev pub contents_of : Files → FileContents
contents_of files name = get files name

-- each name with the bytes of its vector
abbrev pub named_bytes : List (FileName × Vec ℕ) → List (FileName × List ℕ)
named_bytes files = map (λ file. (file.0, file.1.items)) files
