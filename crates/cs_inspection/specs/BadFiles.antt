-- The bad files of a store, and why each is bad. Nothing is known of the file under an unreadable name.
use Rattle.std.specs.Prelude.{◌≡◌, ◌⊎◌, ℕ, List, map, Some, None}
use Rattle.std.specs.List.Sorted.{IsStrictlySortedBy}
use Rattle.cs_schema.specs.declared.file_name.FileName.{FileName}
use Rattle.cs_schema.specs.Lists.{IsIn}
use Rattle.cs_schema.specs.CatalogData.{CatalogData}
use Rattle.cs_schema.specs.FileNames.{FileContents, HasName, name_cmp}
use Rattle.cs_segment.specs.SegmentFile.{Base, IsSegmentFile}
use Rattle.cs_delta.specs.DeltaFile.{DeltaData, IsDeltaFile, CanMerge}
use Rattle.cs_jix.specs.JoinIndex.{Place, IsJoinIndexFile}
use Rattle.cs_inspection.specs.declared.badness.Badness.{Badness}

-- the bytes are those of a file of this name
abbrev pub IsFileOf : CatalogData → FileName → List ℕ → Type 0
IsFileOf C (FileName.Seg p s) bytes = (base : Base) × IsSegmentFile C p s bytes base
IsFileOf C (FileName.Del p s) bytes = (changes : DeltaData) × IsDeltaFile C p s bytes changes
IsFileOf C (FileName.Jix p s q) bytes = (entries : List Place) × IsJoinIndexFile p s q bytes entries

-- a delta and its segment, each sound by itself
pub record IsPair (C : CatalogData) (F : FileContents) (p s : ℕ) (base : Base) (changes : DeltaData) : Type 0 where
  pub segment_bytes : List ℕ
  pub delta_bytes : List ℕ
  pub has_segment : F (FileName.Seg p s) ≡ Some segment_bytes
  pub has_delta : F (FileName.Del p s) ≡ Some delta_bytes
  pub segment_file : IsSegmentFile C p s segment_bytes base
  pub delta_file : IsDeltaFile C p s delta_bytes changes

-- the bytes under a name are not a file of that name, or are a delta that does not merge with its sound segment
pub data IsDamaged (C : CatalogData) (F : FileContents) (n : FileName) (bytes : List ℕ) : Type 0 where
  no_file : ¬ IsFileOf C n bytes → IsDamaged C F n bytes
  unmerged : (p s : ℕ) (base : Base) (changes : DeltaData) → n ≡ FileName.Del p s → IsPair C F p s base changes → ¬ CanMerge base changes → IsDamaged C F n bytes

-- the bytes are a file of their name, and if it is a delta whose segment is sound by itself, the two merge
pub record IsUndamaged (C : CatalogData) (F : FileContents) (n : FileName) (bytes : List ℕ) : Type 0 where
  pub file : IsFileOf C n bytes
  pub merges : (p s : ℕ) (base : Base) (changes : DeltaData) → n ≡ FileName.Del p s → IsPair C F p s base changes → CanMerge base changes

-- why the file under a name is bad: the first of these that applies
pub data IsBad (C : CatalogData) (F : FileContents) (unreadable : List FileName) (n : FileName) (why : Badness) : Type 0 where
  unreadable : IsIn n unreadable → why ≡ Badness.Unreadable → IsBad C F unreadable n why
  missing : ¬ IsIn n unreadable → F n ≡ None → why ≡ Badness.Missing → IsBad C F unreadable n why
  damaged : ¬ IsIn n unreadable → (bytes : List ℕ) → F n ≡ Some bytes → IsDamaged C F n bytes → why ≡ Badness.Damaged → IsBad C F unreadable n why

-- the file is readable, present and undamaged
pub record IsGood (C : CatalogData) (F : FileContents) (unreadable : List FileName) (n : FileName) : Type 0 where
  pub readable : ¬ IsIn n unreadable
  pub bytes : List ℕ
  pub there : F n ≡ Some bytes
  pub undamaged : IsUndamaged C F n bytes

-- the name is in the list of bad files
abbrev pub IsListed : FileName → List (FileName × Badness) → Type 0
IsListed n bad = (why : Badness) × IsIn (n, why) bad

-- the bad files among some names, each with the reason, in the order of their names; the other files are good
pub record AreBadAmong (C : CatalogData) (F : FileContents) (unreadable names : List FileName) (bad : List (FileName × Badness)) : Type 0 where
  pub each : (n : FileName) (why : Badness) → IsIn (n, why) bad → IsIn n names × IsBad C F unreadable n why
  pub others : (n : FileName) → IsIn n names → IsListed n bad ⊎ IsGood C F unreadable n
  pub in_order : IsStrictlySortedBy name_cmp (map (λ b. b.0) bad)

-- the bad files of a store, each with the reason, in the order of their names; the other files of the catalog are good
pub record AreBadFiles (C : CatalogData) (F : FileContents) (unreadable : List FileName) (bad : List (FileName × Badness)) : Type 0 where
  pub each : (n : FileName) (why : Badness) → IsIn (n, why) bad → HasName C n × IsBad C F unreadable n why
  pub others : (n : FileName) → HasName C n → IsListed n bad ⊎ IsGood C F unreadable n
  pub in_order : IsStrictlySortedBy name_cmp (map (λ b. b.0) bad)
