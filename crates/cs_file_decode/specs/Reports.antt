-- What is said of a file's bytes.
use Rattle.std.specs.Prelude.{◌≡◌, ◌-◌, ◌<◌, ℕ, List, length, take, drop, Option, Some, None}
use Rattle.sha2.specs.Sha256.{sha256}
use Rattle.cs_schema.specs.CatalogData.{CatalogData}
use Rattle.cs_schema.specs.declared.file_name.FileName.{FileName}
use Rattle.cs_segment.specs.SegmentData.{IsSegmentOf}
use Rattle.cs_delta.specs.DeltaFile.{IsDeltaFile}
use Rattle.cs_jix.specs.JoinIndex.{IsJoinIndexFile}
use Rattle.cs_inspection.specs.BadFiles.{IsFileOf}
use Rattle.cs_file_decode.specs.declared.digests.Digests.{Digests}
use Rattle.cs_file_decode.specs.declared.content.Content.{Content}
use Rattle.cs_file_decode.specs.declared.content.Content.TheVariants.{Segment, Delta, Join, Nonsense}
use Rattle.cs_file_decode.specs.declared.content.FileReport.{FileReport}

-- the SHA-256 digest (FIPS 180-4) of all but the last 32 bytes, and the last 32 bytes
pub record AreDigestsOf (bytes : List ℕ) (digests : Digests) : Type 0 where
  pub wanted_is : digests.wanted ≡ sha256 (take (length bytes - 32) bytes)
  pub found_is : digests.found ≡ drop (length bytes - 32) bytes

-- what the bytes hold under a name: the file of that name that they are, or none
abbrev pub IsContentOf : CatalogData → FileName → List ℕ → Content → Type 0
IsContentOf C (FileName.Seg p s) bytes (Segment segment) = IsSegmentOf C p s bytes segment
IsContentOf C (FileName.Del p s) bytes (Delta delta) = IsDeltaFile C p s bytes delta
IsContentOf C (FileName.Jix p s q) bytes (Join join) = IsJoinIndexFile p s q bytes join
IsContentOf C name bytes (Nonsense nonsense) = ¬ IsFileOf C name bytes
IsContentOf C name bytes _ = ⊥

-- the digests, where there is room for one
abbrev pub HasDigests : List ℕ → Option Digests → Type 0
HasDigests bytes None = length bytes < 32
HasDigests bytes (Some digests) = AreDigestsOf bytes digests

-- what the bytes say that stand under a name
pub record IsReportOf (C : CatalogData) (name : FileName) (bytes : List ℕ) (report : FileReport) : Type 0 where
  pub length_is : report.length ≡ length bytes
  pub digests_are : HasDigests bytes report.digests
  pub content_is : IsContentOf C name bytes report.content
