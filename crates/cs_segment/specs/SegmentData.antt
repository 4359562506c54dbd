-- A segment as plain data.
use Rattle.std.specs.Prelude.{◌≡◌, ℕ, List, map, length, Result, Err, IfOk}
use Rattle.cs_schema.specs.declared.kinds.Kind.{Kind}
use Rattle.cs_schema.specs.CatalogData.{CatalogData, projection}
use Rattle.cs_schema.specs.Lists.{numbers_below}
use Rattle.cs_segment.specs.declared.fault.FileFault.{FileFault}
use Rattle.cs_segment.specs.SegmentFile.{Base, IsSegmentFile}
use Rattle.cs_schema.specs.CatalogData.{kind_at}

pub record SegmentData : Type 0 where
  pub p : ℕ
  pub s : ℕ
  pub kinds : List Kind
  pub base : Base

-- the kinds of a projection's columns
abbrev pub kinds_at : CatalogData → ℕ → List Kind
kinds_at C p = map (kind_at C p) (numbers_below (length (projection C p).columns))

-- the bytes are the file of this segment
pub record IsSegmentOf (C : CatalogData) (p s : ℕ) (bytes : List ℕ) (segment : SegmentData) : Type 0 where
  pub p_is : segment.p ≡ p
  pub s_is : segment.s ≡ s
  pub kinds_are : segment.kinds ≡ kinds_at C p
  pub file : IsSegmentFile C p s bytes segment.base

-- the bytes are the file of no base of this segment
abbrev pub IsNoSegment : CatalogData → ℕ → ℕ → List ℕ → Type 0
IsNoSegment C p s bytes = (b : Base) → IsSegmentFile C p s bytes b → ⊥

-- the result of reading bytes as the file of this segment
pub record ReadsSegment (C : CatalogData) (p s : ℕ) (bytes : List ℕ) (result : Result SegmentData FileFault) : Type 0 where
  pub found : IfOk result (IsSegmentOf C p s bytes)
  pub refused : result ≡ Err FileFault.Damaged → IsNoSegment C p s bytes
  pub only : IfOk result (λ segment. (b : Base) → IsSegmentFile C p s bytes b → b ≡ segment.base)
