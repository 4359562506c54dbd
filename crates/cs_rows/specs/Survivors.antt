-- What has been read of a store's surviving segments: images and join indexes, each of which may be absent.
use Rattle.std.specs.Prelude.{ℕ, ◌≡◌, ◌+◌, ◌<◌, List, [], map, length, replicate, slice_index_or, slice_set, Option, Some, None}
use Rattle.std.specs.Option.{unwrap_or}
use Rattle.cs_schema.specs.declared.cells.Value.{Value}
use Rattle.cs_schema.specs.CatalogData.{CatalogData, ProjectionData, segments}
use Rattle.cs_delta.specs.Image.{ImageData, image_rows}
use Rattle.cs_delta.specs.KindedImage.{KindedImage}
use Rattle.cs_segment.specs.SegmentData.{kinds_at}
use Rattle.cs_jix.specs.JoinIndex.{Place}
use Rattle.cs_rows.specs.Walk.{Contents}

pub record SurvivorsData : Type 0 where
  pub catalog : CatalogData
  pub images : List (List (Option KindedImage))
  pub joins : List (List (List (Option (List Place))))

-- the images of a projection's segments
abbrev pub images_of : SurvivorsData → ℕ → List (Option KindedImage)
images_of S p = slice_index_or S.images p []

-- the join indexes of a segment, by target
abbrev pub joins_of : SurvivorsData → ℕ → ℕ → List (Option (List Place))
joins_of S p s = slice_index_or (slice_index_or S.joins p []) s []

abbrev pub image_at : SurvivorsData → ℕ → ℕ → Option KindedImage
image_at S p s = slice_index_or (images_of S p) s None

abbrev pub join_at : SurvivorsData → ℕ → ℕ → ℕ → Option (List Place)
join_at S p s q = slice_index_or (joins_of S p s) q None

abbrev pub no_image : ImageData
no_image = record { pairs = []; top = 0 }

-- the image in a slot, or one without rows if there is none
abbrev pub held : Option KindedImage → ImageData
held None = no_image
held (Some m) = m.image

-- the cells of one row
abbrev pub image_row : ImageData → ℕ → List Value
image_row m i = slice_index_or (image_rows m) i []

-- the images and join indexes in all slots; an empty slot counts as an image without rows, or as no entries
abbrev pub contents_of : SurvivorsData → Contents
contents_of S = record { image = λ p s. held (image_at S p s); join = λ p s q. unwrap_or (join_at S p s q) [] }

-- a slot for each name of a catalog
pub record HasRoom (C : CatalogData) (S : SurvivorsData) : Type 0 where
  pub images : length S.images ≡ length C.projections
  pub segments_of_images : (p : ℕ) → p < length C.projections → length (images_of S p) ≡ segments C p
  pub joins : length S.joins ≡ length C.projections
  pub segments_of_joins : (p : ℕ) → p < length C.projections → length (slice_index_or S.joins p []) ≡ segments C p
  pub targets : (p s : ℕ) → p < length C.projections → s < segments C p → length (joins_of S p s) ≡ length C.projections

-- the images have the columns of the catalog's projections
abbrev pub HoldsImages : CatalogData → SurvivorsData → Type 0
HoldsImages C S = (p s : ℕ) (m : KindedImage) → p < length C.projections → s < segments C p → image_at S p s ≡ Some m → m.kinds ≡ kinds_at C p

-- what is true of all survivors
pub record AreSurvivors (S : SurvivorsData) : Type 0 where
  pub room : HasRoom S.catalog S
  pub kinds : HoldsImages S.catalog S

abbrev pub no_images : ProjectionData → List (Option KindedImage)
no_images P = replicate (length P.cuts + 1) None

abbrev pub no_joins : ℕ → ProjectionData → List (List (Option (List Place)))
no_joins count P = replicate (length P.cuts + 1) (replicate count None)

-- a slot for each name of a catalog, and all are empty
abbrev pub no_survivors : CatalogData → SurvivorsData
no_survivors C = record { catalog = C; images = map no_images C.projections; joins = map (no_joins (length C.projections)) C.projections }

abbrev pub with_image : SurvivorsData → ℕ → ℕ → KindedImage → SurvivorsData
with_image S p s m = record S { images = slice_set S.images p (slice_set (images_of S p) s (Some m)) }

abbrev pub with_join : SurvivorsData → ℕ → ℕ → ℕ → List Place → SurvivorsData
with_join S p s q es = record S { joins = slice_set S.joins p (slice_set (slice_index_or S.joins p []) s (slice_set (joins_of S p s) q (Some es))) }
