-- What the bytes of one file hold.
use Rattle.std.specs.Prelude.{◌≡◌, ℕ, List, Some}
use Rattle.cs_schema.specs.CatalogData.{CatalogData}
use Rattle.cs_schema.specs.declared.file_name.FileName.{FileName}
use Rattle.cs_schema.specs.FileNames.{FileContents}
use Rattle.cs_segment.specs.SegmentFile.{Base, IsSegmentFile}
use Rattle.cs_segment.specs.SegmentData.{SegmentData, kinds_at}
use Rattle.cs_delta.specs.DeltaFile.{DeltaData, IsDeltaFile}

-- the bytes are the file of this segment, and of no other base
pub record HoldsSegment (C : CatalogData) (p s : ℕ) (bytes : List ℕ) (segment : SegmentData) : Type 0 where
  pub kinds : segment.kinds ≡ kinds_at C p
  pub file : IsSegmentFile C p s bytes segment.base
  pub only : (b : Base) → IsSegmentFile C p s bytes b → b ≡ segment.base

abbrev pub HoldsNoSegment : CatalogData → ℕ → ℕ → List ℕ → Type 0
HoldsNoSegment C p s bytes = (b : Base) → ¬ IsSegmentFile C p s bytes b

-- the segment's file is present and sound by itself, and holds only this segment
pub record HasSoundSegment (C : CatalogData) (F : FileContents) (p s : ℕ) (segment : SegmentData) : Type 0 where
  pub bytes : List ℕ
  pub there : F (FileName.Seg p s) ≡ Some bytes
  pub holds : HoldsSegment C p s bytes segment

-- the segment has no sound file
abbrev pub HasNoSegment : CatalogData → FileContents → ℕ → ℕ → Type 0
HasNoSegment C F p s = (bytes : List ℕ) → F (FileName.Seg p s) ≡ Some bytes → HoldsNoSegment C p s bytes

-- the bytes are the file of this delta, and of no other
pub record HoldsDelta (C : CatalogData) (p s : ℕ) (bytes : List ℕ) (changes : DeltaData) : Type 0 where
  pub file : IsDeltaFile C p s bytes changes
  pub only : (d : DeltaData) → IsDeltaFile C p s bytes d → d ≡ changes

abbrev pub HoldsNoDelta : CatalogData → ℕ → ℕ → List ℕ → Type 0
HoldsNoDelta C p s bytes = (d : DeltaData) → ¬ IsDeltaFile C p s bytes d
