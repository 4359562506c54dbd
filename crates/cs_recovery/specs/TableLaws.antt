-- Laws about tables, keys and the steps of a walk; each is the contract of a function of src/table_laws.rt.
use Rattle.std.specs.Prelude.{◌≡◌, ℕ, ◌<◌, ◌≤◌, ◌↔◌, false, List, length, Some}
use Rattle.std.specs.List.{slice_get}
use Rattle.std.specs.Option.{option_and_then}
use Rattle.cs_schema.specs.CatalogData.{CatalogData}
use Rattle.cs_schema.specs.Lists.{IsIn}
use Rattle.cs_schema.specs.Losses.{Sites}
use Rattle.cs_schema.specs.Order.{rows_of, index_of}
use Rattle.cs_schema.specs.Rows.{Row, IsRow, IsTable, segment_of_row}
use Rattle.cs_segment.specs.SegmentFile.{Base}
use Rattle.cs_delta.specs.DeltaFile.{DeltaData, IsDelta, CanMerge, merged}
use Rattle.cs_delta.specs.Image.{ImageData, image_keys, position_of_key}
use Rattle.cs_safety.specs.PlanData.{PlanData, IsPlan, prev_of}
use Rattle.cs_rows.specs.Walk.{Contents, At, follow, stand}
use Rattle.cs_order.specs.Tables.{table_of, is_twice}

-- if no primary key occurs twice among rows, their table is a table of exactly these rows, in whatever order they came
pub record HasTheRows (C : CatalogData) (rows : List Row) : Type 0 where
  pub table : IsTable C (table_of C rows)
  pub members : (r : Row) → IsIn r (table_of C rows) ↔ IsIn r rows
  pub any_order : (others : List Row) → is_twice C others ≡ false → ((r : Row) → IsIn r others ↔ IsIn r rows) → table_of C others ≡ table_of C rows

abbrev pub TableHasTheRows : Type 0
TableHasTheRows = (C : CatalogData) (rows : List Row) → ((r : Row) → IsIn r rows → IsRow C r) → is_twice C rows ≡ false → HasTheRows C rows

-- the index of a row of a table is its position among the rows of its segment
abbrev pub IndexIsThePlace : Type 0
IndexIsThePlace =
    (C : CatalogData) (T : List Row) → IsTable C T → (p : ℕ) (r : Row) → IsIn r T
    → (i : ℕ) → (index_of C T p r ≡ Some i) ↔ (slice_get (rows_of C T p (segment_of_row C p r)) i ≡ Some r)

-- the keys of an image are distinct, so positions and keys determine each other; they are from 1 to the highest key
pub record HasDistinctKeys (m : ImageData) : Type 0 where
  pub inverse : (i key : ℕ) → (slice_get (image_keys m) i ≡ Some key) ↔ (position_of_key m key ≡ Some i)
  pub range : (i key : ℕ) → slice_get (image_keys m) i ≡ Some key → (1 ≤ key) × (key ≤ m.top)

abbrev pub MergedKeysAreDistinct : Type 0
MergedKeysAreDistinct = (C : CatalogData) (p : ℕ) (b : Base) (d : DeltaData) → IsDelta C p d → CanMerge b d → HasDistinctKeys (merged b d)

-- the walk from an anchor row is at that row in the anchor, and in each other projection it is at the row to which one
-- `follow` leads from the projection before
pub record IsStepByStep (C : CatalogData) (S : Contents) (P : PlanData) (at : At) : Type 0 where
  pub anchor : stand C S P at P.anchor ≡ Some at
  pub step : (p q : ℕ) → q < length C.projections → prev_of P q ≡ Some p → stand C S P at q ≡ option_and_then (follow C S p q) (stand C S P at p)

abbrev pub WalkIsStepByStep : Type 0
WalkIsStepByStep = (C : CatalogData) (L : Sites) (P : PlanData) → IsPlan C L P → (S : Contents) (at : At) → IsStepByStep C S P at
