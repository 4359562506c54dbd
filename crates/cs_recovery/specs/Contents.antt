-- What the files of surviving segments hold.
use Rattle.std.specs.Prelude.{◌≡◌, ℕ, List, Some}
use Rattle.cs_schema.specs.declared.file_name.FileName.{FileName}
use Rattle.cs_schema.specs.CatalogData.{CatalogData}
use Rattle.cs_schema.specs.Losses.{Sites}
use Rattle.cs_schema.specs.FileNames.{FileContents, Survives}
use Rattle.cs_segment.specs.SegmentFile.{Base, IsSegmentFile}
use Rattle.cs_delta.specs.DeltaFile.{DeltaData}
use Rattle.cs_delta.specs.Image.{ImageData}
use Rattle.cs_delta.specs.DeltaFile.{IsDeltaFile, CanMerge, merged}
use Rattle.cs_jix.specs.JoinIndex.{Place, IsJoinIndexFile}
use Rattle.cs_rows.specs.Walk.{Contents}

-- the files of a segment and of its delta are these, and they merge to this image
pub record IsImageOf (C : CatalogData) (F : FileContents) (p s : ℕ) (m : ImageData) : Type 0 where
  pub segment_bytes : List ℕ
  pub delta_bytes : List ℕ
  pub base : Base
  pub changes : DeltaData
  pub has_segment : F (FileName.Seg p s) ≡ Some segment_bytes
  pub has_delta : F (FileName.Del p s) ≡ Some delta_bytes
  pub segment_file : IsSegmentFile C p s segment_bytes base
  pub delta_file : IsDeltaFile C p s delta_bytes changes
  pub can_merge : CanMerge base changes
  pub image : m ≡ merged base changes

pub record IsJoinOf (F : FileContents) (p s q : ℕ) (entries : List Place) : Type 0 where
  pub bytes : List ℕ
  pub has_file : F (FileName.Jix p s q) ≡ Some bytes
  pub file : IsJoinIndexFile p s q bytes entries

-- the files of surviving segments hold these contents
pub record Reads (C : CatalogData) (F : FileContents) (L : Sites) (S : Contents) : Type 0 where
  pub images : (p s : ℕ) → Survives C L (FileName.Seg p s) → IsImageOf C F p s (S.image p s)
  pub joins : (p s q : ℕ) → Survives C L (FileName.Jix p s q) → IsJoinOf F p s q (S.join p s q)
