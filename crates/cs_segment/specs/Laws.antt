-- Laws about segment files.
use Rattle.std.specs.Prelude.{◌≡◌, ℕ, ◌<◌, List, length}
use Rattle.cs_schema.specs.CatalogData.{CatalogData}
use Rattle.cs_schema.specs.CatalogRules.{IsCatalog}
use Rattle.cs_segment.specs.SegmentFile.{Base, IsSegmentFile}

-- bytes are the file of at most one base
abbrev pub OneSegment : Type 0
OneSegment = (C : CatalogData) → IsCatalog C → (p s : ℕ) → p < length C.projections → (bytes : List ℕ) (b d : Base) → IsSegmentFile C p s bytes b → IsSegmentFile C p s bytes d → b ≡ d
