-- A manifest reads as what was written.
use Rattle.std.specs.Prelude.{◌≡◌, ◌==◌, ◌||◌, ◌<◌, ℕ, false, List, ◌∷◌, ◌++◌, length, Some, Ok, Err}
use Rattle.std.specs.List.{All, AllByRecursion, flat_map}
use Rattle.std.specs.Map.{lookup}
use Rattle.std.specs.Str.{bytes_eq}
use Rattle.std.specs.Str.Lines.{lines}
use Rattle.hex.specs.Hex.{IsBytes}
use Rattle.cs_manifest.specs.Lines.{entry_in, line_of}
use Rattle.cs_manifest.specs.Reading.{digest_in, IsReadingOf}
use Rattle.cs_manifest.specs.declared.manifest.Manifest.{Manifest}
use Rattle.cs_manifest.specs.declared.fault.ManifestFault.TheVariants as fault

-- a path that is not empty, and has no line feed and no carriage return
abbrev pub IsPlainPath : List ℕ → Type 0
IsPlainPath path = (0 < length path) × All (λ b. (b == 10 || b == 13) ≡ false) path

-- the 32 bytes of a SHA-256 digest
abbrev pub IsDigest : List ℕ → Type 0
IsDigest digest = (length digest ≡ 32) × IsBytes digest

-- a path and its digest
abbrev pub Entry : Type 0
Entry = List ℕ × List ℕ

abbrev pub IsEntry : Entry → Type 0
IsEntry entry = IsPlainPath entry.0 × IsDigest entry.1

-- the lines of entries, as they are written
abbrev pub written : List Entry → List ℕ
written entries = flat_map (λ entry. line_of entry.0 entry.1) entries

-- a written line before other lines is the first that is read, and says what was written
abbrev pub LinesReadBack : Type 0
LinesReadBack = (entry : Entry) (rest : List ℕ) → IsEntry entry
    → (line : List ℕ) × (lines (line_of entry.0 entry.1 ++ rest) ≡ line ∷ lines rest) × (entry_in line ≡ Some entry)

-- what was written is read as a manifest that says of each path the first digest that was written of it, and no line of it is none
abbrev pub ManifestsReadBack : Type 0
ManifestsReadBack = (entries : List Entry) → AllByRecursion IsEntry entries
    → ((m : Manifest) → IsReadingOf (lines (written entries)) (Ok m) → (path : List ℕ) → digest_in m path ≡ lookup (bytes_eq path) entries)
    × ((n : ℕ) → ¬ IsReadingOf (lines (written entries)) (Err (fault.Line n)))
