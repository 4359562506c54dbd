-- The lines of a manifest, as `sha256sum` writes and reads them.
use Rattle.std.specs.Prelude.{ℕ, ◌==◌, ◌||◌, Bool, List, [], ◌∷◌, ◌++◌, codes, Option, None, Some, Result, Ok, Err, if◌then◌else◌}
use Rattle.std.specs.List.{before_first, after_first, flat_map}
use Rattle.hex.specs.Hex.{encode_lower, decode_sized}
use Rattle.hex.specs.declared.error.FromHexError.{FromHexError}
use Rattle.cs_schema.specs.FileNames.{file_path}
use Rattle.cs_schema.specs.declared.file_name.FileName.{FileName}
use Rattle.cs_manifest.specs.declared.digesting.Digested.{Digested}
use Rattle.cs_manifest.specs.declared.digesting.Digested.TheVariants.{Found, Missing, Unreadable}

-- the path of the catalog
abbrev pub catalog_path : List ℕ
catalog_path = codes "catalog.toml"

-- ---- lines that are written

-- the digest in hexadecimal, two spaces, the path, a line feed
abbrev pub line_of : List ℕ → List ℕ → List ℕ
line_of path digest = encode_lower digest ++ codes "  " ++ path ++ 10 ∷ []

-- the line of a file that is there
abbrev pub file_line : FileName × Digested → List ℕ
file_line (name, Found digest) = line_of (file_path name) digest
file_line (name, Missing) = []
file_line (name, Unreadable) = []

-- the line of the catalog, which has this digest, and those of the files that are there, in order
abbrev pub manifest_text : List ℕ → List (FileName × Digested) → List ℕ
manifest_text catalog files = line_of catalog_path catalog ++ flat_map file_line files

-- ---- lines that are read

abbrev pub is_space : ℕ → Bool
is_space b = b == 32

-- a path after a mark, which is a space or a star
abbrev pub path_after : List ℕ → Option (List ℕ)
path_after [] = None
path_after (mark ∷ []) = None
path_after (mark ∷ b ∷ path) = if mark == 32 || mark == 42 then Some (b ∷ path) else None

abbrev pub path_with_digest : Option (List ℕ) → Result (List ℕ) FromHexError → Option (List ℕ × List ℕ)
path_with_digest (Some path) (Ok digest) = Some (path, digest)
path_with_digest (Some path) (Err e) = None
path_with_digest None digest = None

-- the path and the digest that a line says: 64 hexadecimal digits up to the first space, a mark and the path
abbrev pub entry_in : List ℕ → Option (List ℕ × List ℕ)
entry_in line = path_with_digest (path_after (after_first is_space line)) (decode_sized (before_first is_space line) 32)
