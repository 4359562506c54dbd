-- Facts about a store whose rows are in order, on which tasks rely.
use Rattle.std.specs.Prelude.{◌≡◌, ◌≢◌, ℕ, ◌<◌, ◌≤◌, List, [], map, length, slice_index, slice_index_or, None}
use Rattle.cs_schema.specs.declared.cells.Value.{Value}
use Rattle.cs_schema.specs.declared.file_name.FileName.{FileName}
use Rattle.cs_schema.specs.CatalogData.{CatalogData, HasSegment, projection, segments}
use Rattle.cs_schema.specs.FileNames.{Survives}
use Rattle.cs_schema.specs.Lists.{IsIn}
use Rattle.cs_schema.specs.Losses.{Sites}
use Rattle.cs_schema.specs.Order.{rows_of, row_limit}
use Rattle.cs_schema.specs.Rows.{Row}
use Rattle.cs_delta.specs.DeltaFile.{key_limit}
use Rattle.cs_delta.specs.Image.{image_keys, image_rows}
use Rattle.cs_jix.specs.JoinIndex.{Place}
use Rattle.cs_order.specs.Orders.{OrdersData, numbers_in, row_at}
use Rattle.cs_order.specs.Tables.{table_of}
use Rattle.cs_rows.specs.Survivors.{SurvivorsData, contents_of, image_at, join_at}

-- ---- survivors

abbrev pub HaveImageRoom : CatalogData → SurvivorsData → Type 0
HaveImageRoom C v = (p s : ℕ) → HasSegment C p s → (p < length v.catalog.projections) × (s < segments v.catalog p)

abbrev pub HaveJoinRoom : CatalogData → SurvivorsData → Type 0
HaveJoinRoom C v = (p s q : ℕ) → HasSegment C p s → q < length C.projections → (p < length v.catalog.projections) × (s < segments v.catalog p) × (q < length v.catalog.projections)

abbrev pub AreImagesThere : CatalogData → Sites → SurvivorsData → Type 0
AreImagesThere C L v = (p s : ℕ) → Survives C L (FileName.Seg p s) → image_at v p s ≢ None

abbrev pub AreJoinsThere : CatalogData → Sites → SurvivorsData → Type 0
AreJoinsThere C L v = (p s q : ℕ) → Survives C L (FileName.Jix p s q) → join_at v p s q ≢ None

-- each row of an image has a cell for each column of its projection
abbrev pub HaveWidths : CatalogData → Sites → SurvivorsData → Type 0
HaveWidths C L v = (p s : ℕ) (x : List Value) → Survives C L (FileName.Seg p s) → IsIn x (image_rows ((contents_of v).image p s)) → length x ≡ length (projection C p).columns

-- the keys of an image are at least 1 and at most the limit
abbrev pub HaveKeys : CatalogData → Sites → SurvivorsData → Type 0
HaveKeys C L v = (p s i : ℕ) → Survives C L (FileName.Seg p s) → i < length ((contents_of v).image p s).pairs → (1 ≤ slice_index (image_keys ((contents_of v).image p s)) i) × (slice_index (image_keys ((contents_of v).image p s)) i ≤ key_limit)

abbrev pub HaveTops : CatalogData → Sites → SurvivorsData → Type 0
HaveTops C L v = (p s : ℕ) → Survives C L (FileName.Seg p s) → ((contents_of v).image p s).top ≤ key_limit

-- an entry without a key has no segment
abbrev pub HaveEntries : CatalogData → Sites → SurvivorsData → Type 0
HaveEntries C L v = (p s q : ℕ) (e : Place) → Survives C L (FileName.Jix p s q) → IsIn e ((contents_of v).join p s q) → e.1 ≡ 0 → e.0 ≡ 0

-- ---- orders

abbrev pub HaveOrders : CatalogData → OrdersData → Type 0
HaveOrders C o = (p : ℕ) → p < length C.projections → (p < length o.segments) × (length (slice_index_or o.segments p []) ≡ segments C p)

-- the numbers are those of rows
abbrev pub AreNumbersBelow : CatalogData → List Row → OrdersData → Type 0
AreNumbersBelow C rows o = (p s k : ℕ) → p < length C.projections → k < length (numbers_in o p s) → slice_index (numbers_in o p s) k < length rows

-- the numbers give the table's rows in order
abbrev pub AreInOrder : CatalogData → List Row → OrdersData → Type 0
AreInOrder C rows o = (p s : ℕ) → p < length C.projections → map (row_at rows) (numbers_in o p s) ≡ rows_of C (table_of C rows) p s

abbrev pub HaveRoomInRanges : CatalogData → OrdersData → Type 0
HaveRoomInRanges C o = (p s : ℕ) → HasSegment C p s → length (numbers_in o p s) ≤ row_limit
