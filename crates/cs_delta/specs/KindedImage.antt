-- Images with the kinds of their columns, and when a delta may be applied to a segment.
use Rattle.std.specs.Prelude.{◌≡◌, ℕ, ◌+◌, ◌<◌, ◌≤◌, List, map, length}
use Rattle.cs_schema.specs.declared.kinds.Kind.{Kind}
use Rattle.cs_schema.specs.declared.cells.Value.{Value}
use Rattle.cs_schema.specs.Rows.{cell}
use Rattle.cs_schema.specs.Order.{row_limit}
use Rattle.cs_schema.specs.Lists.{numbers_below}
use Rattle.cs_schema.specs.CatalogData.{CatalogData}
use Rattle.cs_schema.specs.CatalogRules.{IsCatalog}
use Rattle.cs_segment.specs.SegmentFile.{IsBase, base_column}
use Rattle.cs_segment.specs.SegmentData.{SegmentData, kinds_at}
use Rattle.cs_delta.specs.Image.{Pair, ImageData}
use Rattle.cs_delta.specs.DeltaFile.{DeltaData, IsDelta, merged}
use Rattle.cs_delta.specs.Layers.{AreLayers}

-- an image with the kinds of its columns, which an image without rows does not show
pub record KindedImage : Type 0 where
  pub kinds : List Kind
  pub image : ImageData

-- the keys of a base's rows: 1, 2, 3, ..
abbrev pub base_keys : ℕ → List ℕ
base_keys n = map (λ i. i + 1) (numbers_below n)

abbrev pub merged_image : SegmentData → DeltaData → KindedImage
merged_image segment d = record { kinds = segment.kinds; image = merged segment.base d }

-- the segment and the delta are of one projection of some catalog
pub record AreOfOneCatalog (segment : SegmentData) (d : DeltaData) : Type 0 where
  pub catalog : CatalogData
  pub p : ℕ
  pub rules : IsCatalog catalog
  pub exists : p < length catalog.projections
  pub base : IsBase catalog p segment.base
  pub kinds_are : segment.kinds ≡ kinds_at catalog p
  pub delta : IsDelta catalog p d

-- the segment's columns have its number of rows, and the delta's layers suit their kinds
pub record MayMerge (segment : SegmentData) (d : DeltaData) : Type 0 where
  pub count : segment.base.rows ≤ row_limit
  pub lengths : (j : ℕ) → j < length segment.base.columns → length (base_column segment.base j) ≡ segment.base.rows
  pub layers : AreLayers segment.kinds (base_keys d.rows) d.layers

-- the cells of an image's j-th column
abbrev pub image_column : ImageData → ℕ → List Value
image_column m j = map (λ (x : Pair). cell x.1 j) m.pairs
