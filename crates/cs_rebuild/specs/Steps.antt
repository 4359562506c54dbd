-- What each step of a recovery finds.
use Rattle.std.specs.Prelude.{◌≡◌, ◌<◌, ◌^◌, List, map, Option, None, Some, Ok, Err, length}
use Rattle.std.specs.Option.{option_or}
use Rattle.cs_schema.specs.declared.file_name.FileName.{FileName}
use Rattle.cs_schema.specs.CatalogData.{CatalogData}
use Rattle.cs_schema.specs.FileNames.{FileContents, Survives}
use Rattle.cs_schema.specs.Losses.{Sites}
use Rattle.cs_schema.specs.Order.{Fits}
use Rattle.cs_schema.specs.Rows.{Row, IsTable}
use Rattle.cs_store.specs.declared.fault.Fault.{Fault}
use Rattle.cs_safety.specs.declared.ksafety.SafetyFault.{SafetyFault}
use Rattle.cs_rows.specs.Walk.{Contents, Stray}
use Rattle.cs_rows.specs.Survivors.{SurvivorsData, contents_of}
use Rattle.cs_rows.specs.WalkedView.{WalkedData}
use Rattle.cs_rebuild.specs.Reading.{resealed}
use Rattle.cs_rebuild.specs.StoreFacts.{AreImagesThere, AreJoinsThere}
use Rattle.cs_order.specs.Orders.{OrdersData, AreOrdersOf}
use Rattle.cs_recovery.specs.Contents.{Reads}
use Rattle.cs_recovery.specs.Holding.{AreContentsOf}
use Rattle.cs_order.specs.Tables.{table_of}
use Rattle.cs_recovery.specs.Verdicts.{IsFirstBadFile, IsSound, IsWalkedBy, twice, full, misplaced, misled}

-- the fault of the first bad file by name
abbrev pub IsBadFile : CatalogData → FileContents → Sites → Fault → Type 0
IsBadFile C F L f = (n : FileName) × IsFirstBadFile C F L n f

-- the body of each surviving file is sound
abbrev pub AreBodiesSound : CatalogData → Sites → FileContents → Type 0
AreBodiesSound C L F = (n : FileName) → Survives C L n → IsSound C (resealed F) n

-- what the surviving files hold was stored
pub record AreRead (C : CatalogData) (F : FileContents) (L : Sites) (v : SurvivorsData) : Type 0 where
  pub reads : Reads C F L (contents_of v)
  pub catalog : v.catalog ≡ C
  pub images_there : AreImagesThere C L v
  pub joins_there : AreJoinsThere C L v

-- the fault of the first row that is led astray
abbrev pub IsStray : CatalogData → Sites → Contents → Fault → Type 0
IsStray C L S f = (at : Stray) × IsWalkedBy C.safety C L S (Err at) × (f ≡ Fault.Astray at.0 at.1 at.2)

-- the rows to which the walk leads, with the kinds of the table's columns
pub record AreWalkedRows (C : CatalogData) (L : Sites) (S : Contents) (w : WalkedData) : Type 0 where
  pub kinds : w.kinds ≡ map (λ c. c.kind) C.columns
  pub few : length w.rows < 2 ^ 32
  pub walk : IsWalkedBy C.safety C L S (Ok w.rows)

-- a repeated key, or else the first range that is too large
abbrev pub row_fault : CatalogData → List Row → Option Fault
row_fault C rows = option_or (twice C rows) (full C (table_of C rows))

-- The rows to which the walk leads, without a repeated key or a range that is too large, and their orders.
pub record AreOrdered (C : CatalogData) (L : Sites) (v : SurvivorsData) (w : WalkedData) (o : OrdersData) : Type 0 where
  pub walked : AreWalkedRows C L (contents_of v) w
  pub rows_sound : row_fault C w.rows ≡ None
  pub orders : AreOrdersOf C w.rows o

-- Why survivors have no ordered rows: a row is led astray, a key repeats, or a range is too large.
pub data IsUnordered (C : CatalogData) (L : Sites) (S : Contents) (f : Fault) : Type 0 where
  astray : IsStray C L S f → IsUnordered C L S f
  refused : (rows : List Row) → IsWalkedBy C.safety C L S (Ok rows) → row_fault C rows ≡ Some f → IsUnordered C L S f

-- A sound store: its contents, the rows to which its walk leads, and their orders.
pub record AreSound (C : CatalogData) (F : FileContents) (L : Sites) (v : SurvivorsData) (w : WalkedData) (o : OrdersData) : Type 0 where
  pub read : AreRead C F L v
  pub walked : AreWalkedRows C L (contents_of v) w
  pub rows_sound : row_fault C w.rows ≡ None
  pub placed : misplaced C L (contents_of v) (table_of C w.rows) ≡ None
  pub led : misled C L (contents_of v) (table_of C w.rows) ≡ None
  pub orders : AreOrdersOf C w.rows o

-- The rows of a table, for which the files that survive a loss hold what they have to.
pub record HoldsTable (C : CatalogData) (F : FileContents) (L : Sites) (v : SurvivorsData) (w : WalkedData) : Type 0 where
  pub table : IsTable C (table_of C w.rows)
  pub fits : Fits C (table_of C w.rows)
  pub reads : Reads C F L (contents_of v)
  pub same : AreContentsOf C L (contents_of v) (table_of C w.rows)

-- the fault of a catalog that is not safe
abbrev pub safety_refusal : SafetyFault → Fault
safety_refusal SafetyFault.BadK = Fault.BadK
safety_refusal (SafetyFault.Unsafe L) = Fault.Unsafe L
