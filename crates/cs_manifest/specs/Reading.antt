-- What a text says as a manifest, or where it is none.
use Rattle.std.specs.Prelude.{◌≡◌, ◌+◌, ◌==◌, ℕ, ⊤, Bool, true, false, List, ◌∷◌, ◌++◌, length, map, take, count_by, Option, None, Some, IsSome, Result, Ok, Err, IsUtf8}
use Rattle.std.specs.BTreeMap.{get_by_text}
use Rattle.std.specs.List.{AllByRecursion, IsDistinct, filter_map}
use Rattle.std.specs.Map.{lookup, update}
use Rattle.std.specs.Str.{bytes_eq, IsValidUpTo}
use Rattle.std.specs.Str.Lines.{lines}
use Rattle.cs_manifest.specs.Lines.{entry_in}
use Rattle.cs_manifest.specs.declared.manifest.Manifest.{Manifest}
use Rattle.cs_manifest.specs.declared.fault.ManifestFault.{ManifestFault}
use Rattle.cs_manifest.specs.declared.fault.ManifestFault.TheVariants as fault

-- the digest that a manifest says of a path
abbrev pub digest_in : Manifest → List ℕ → Option (List ℕ)
digest_in m path = get_by_text m.digests path

-- a digest was added of a path that had none, or the path has one
abbrev pub Adds : (List ℕ → Option (List ℕ)) → List ℕ → List ℕ → Bool → (List ℕ → Option (List ℕ)) → Type 0
Adds old path digest true new = (old path ≡ None) × ((q : List ℕ) → new q ≡ update bytes_eq old path (Some digest) q)
Adds old path digest false new = IsSome (old path)

-- the paths and digests that lines say
abbrev pub said : List (List ℕ) → List (List ℕ × List ℕ)
said texts = filter_map entry_in texts

-- the digest that lines say of a path
abbrev pub digest_said : List (List ℕ) → List ℕ → Option (List ℕ)
digest_said texts path = lookup (bytes_eq path) (said texts)

-- each is a line of a manifest, and no two name one path
pub record AreLines (texts : List (List ℕ)) : Type 0 where
  pub all : AllByRecursion (λ text. IsSome (entry_in text)) texts
  pub once : IsDistinct bytes_eq (map (λ entry. entry.0) (said texts))

-- the lines are those of a manifest, which says of each path what they say
pub record AreLinesOf (texts : List (List ℕ)) (m : Manifest) : Type 0 where
  pub lines_are : AreLines texts
  pub says : (path : List ℕ) → digest_in m path ≡ digest_said texts path

-- the line of this number, from 1, is the first at which the lines are none of a manifest
pub record StopsAt (texts : List (List ℕ)) (n : ℕ) (line : List ℕ) (earlier : List (List ℕ)) : Type 0 where
  pub later : List (List ℕ)
  pub split : texts ≡ earlier ++ line ∷ later
  pub number : n ≡ length earlier + 1
  pub lines_are : AreLines earlier

-- what the lines of a text are read as
abbrev pub IsReadingOf : List (List ℕ) → Result Manifest ManifestFault → Type 0
IsReadingOf texts (Ok m) = AreLinesOf texts m
IsReadingOf texts (Err fault.Memory) = ⊤
IsReadingOf texts (Err (fault.NoText n)) = ⊥
IsReadingOf texts (Err (fault.Line n)) = (line : List ℕ) × (earlier : List (List ℕ)) × StopsAt texts n line earlier × (entry_in line ≡ None)
IsReadingOf texts (Err (fault.Twice n)) = (line : List ℕ) × (earlier : List (List ℕ)) × StopsAt texts n line earlier
    × ((path : List ℕ) × (digest : List ℕ) × (entry_in line ≡ Some (path, digest)) × IsSome (digest_said earlier path))

-- what bytes are read as: the manifest of their lines, or why they are none
abbrev pub IsReading : List ℕ → Result Manifest ManifestFault → Type 0
IsReading bytes (Err (fault.NoText n)) = (¬ IsUtf8 bytes) × ((at : ℕ) × IsValidUpTo bytes at × (n ≡ count_by (λ b. b == 10) (take at bytes) + 1))
IsReading bytes answer = IsReadingOf (lines bytes) answer
