-- The files that a recovery writes.
use Rattle.std.specs.Prelude.{◌≡◌, ℕ, nat_lt, Bool, not, ◌&&◌, ◌||◌, List, map, length}
use Rattle.cs_schema.specs.declared.file_name.FileName.{FileName}
use Rattle.cs_schema.specs.CatalogData.{CatalogData, segments, has_join}
use Rattle.cs_schema.specs.Losses.{alive, lost, Sites}
use Rattle.cs_schema.specs.Rows.{Row, project}
use Rattle.cs_schema.specs.FileNames.{FileContents}
use Rattle.cs_schema.specs.Order.{rows_of}
use Rattle.cs_segment.specs.SegmentFile.{segment_text, base_of}
use Rattle.cs_delta.specs.DeltaFile.{delta_text, no_changes}
use Rattle.cs_jix.specs.JoinIndex.{join_index_text}
use Rattle.cs_rows.specs.Walk.{Contents}
use Rattle.cs_recovery.specs.Contents.{Reads}
use Rattle.cs_recovery.specs.Places.{entries_for}
use Rattle.cs_recovery.specs.Tables.{when}

abbrev pub is_segment : CatalogData → ℕ → ℕ → Bool
is_segment C p s = nat_lt p (length C.projections) && nat_lt s (segments C p)

abbrev pub is_lost : CatalogData → Sites → ℕ → ℕ → Bool
is_lost C L p s = is_segment C p s && lost C L p s

abbrev pub is_affected : CatalogData → Sites → ℕ → ℕ → ℕ → Bool
is_affected C L p s q = is_segment C p s && has_join C p q && (lost C L p s || not (alive C L q))

-- the file that is written under a name, if any
abbrev pub written : CatalogData → Sites → Contents → List Row → FileContents
written C L S T (FileName.Seg p s) = when (is_lost C L p s) (segment_text C p s (base_of C p (map (project C p) (rows_of C T p s))))
written C L S T (FileName.Del p s) = when (is_lost C L p s) (delta_text (no_changes p s (length (rows_of C T p s))))
written C L S T (FileName.Jix p s q) = when (is_affected C L p s q) (join_index_text p s q (entries_for C L S T p s q))

-- exactly the files that recover the table from the files that survive a loss
pub record AreExpected (C : CatalogData) (F : FileContents) (L : Sites) (T : List Row) (out : FileContents) : Type 0 where
  pub contents : Contents
  pub reads : Reads C F L contents
  pub files : (n : FileName) → out n ≡ written C L contents T n
