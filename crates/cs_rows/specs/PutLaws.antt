-- Laws about survivors: what a new one has, and what putting an image or a join index changes.
use Rattle.std.specs.Prelude.{◌≡◌, ◌≢◌, ℕ, ◌<◌, length, List, Some, None, ◌⊎◌}
use Rattle.cs_schema.specs.CatalogData.{CatalogData, HasSegment}
use Rattle.cs_delta.specs.KindedImage.{KindedImage}
use Rattle.cs_segment.specs.SegmentData.{kinds_at}
use Rattle.cs_jix.specs.JoinIndex.{Place}
use Rattle.cs_rows.specs.Survivors.{SurvivorsData, HasRoom, HoldsImages, image_at, join_at, no_survivors, with_image, with_join}

-- a slot for each name of the catalog, and all are empty
pub record IsEmptyRoom (C : CatalogData) (S : SurvivorsData) : Type 0 where
  pub room : HasRoom C S
  pub images : (p s : ℕ) → image_at S p s ≡ None
  pub joins : (p s q : ℕ) → join_at S p s q ≡ None
  pub made : HoldsImages C S

-- the segment has the new image, and nothing else changed
pub record PutsImage (C : CatalogData) (S : SurvivorsData) (p s : ℕ) (m : KindedImage) : Type 0 where
  pub room : HasRoom C (with_image S p s m)
  pub new : image_at (with_image S p s m) p s ≡ Some m
  pub others : (q t : ℕ) → (q ≢ p) ⊎ (t ≢ s) → image_at (with_image S p s m) q t ≡ image_at S q t
  pub joins : (q t r : ℕ) → join_at (with_image S p s m) q t r ≡ join_at S q t r
  pub made : HoldsImages C S → m.kinds ≡ kinds_at C p → HoldsImages C (with_image S p s m)

-- the segment has the new join index to the target, and nothing else changed
pub record PutsJoin (C : CatalogData) (S : SurvivorsData) (p s q : ℕ) (entries : List Place) : Type 0 where
  pub room : HasRoom C (with_join S p s q entries)
  pub new : join_at (with_join S p s q entries) p s q ≡ Some entries
  pub others : (o t r : ℕ) → (o ≢ p) ⊎ (t ≢ s) ⊎ (r ≢ q) → join_at (with_join S p s q entries) o t r ≡ join_at S o t r
  pub images : (o t : ℕ) → image_at (with_join S p s q entries) o t ≡ image_at S o t
  pub made : HoldsImages C S → HoldsImages C (with_join S p s q entries)

abbrev pub RoomIsEmpty : Type 0
RoomIsEmpty = (C : CatalogData) → IsEmptyRoom C (no_survivors C)

abbrev pub ImagesArePut : Type 0
ImagesArePut = (C : CatalogData) (S : SurvivorsData) (p s : ℕ) (m : KindedImage) → HasRoom C S → HasSegment C p s → PutsImage C S p s m

abbrev pub JoinsArePut : Type 0
JoinsArePut = (C : CatalogData) (S : SurvivorsData) (p s q : ℕ) (entries : List Place) → HasRoom C S → HasSegment C p s → q < length C.projections → PutsJoin C S p s q entries
