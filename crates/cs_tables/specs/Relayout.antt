-- What `relayout` answers: the files of a store of a new catalog that holds the table of an old one, or why there are none.
use Rattle.std.specs.Prelude.{◌≡◌, ◌≢◌, ⊤, List, [], map, length, Some, None, Result, Ok, Err}
use Rattle.cs_schema.specs.CatalogData.{CatalogData}
use Rattle.cs_schema.specs.FileNames.{FileContents}
use Rattle.cs_schema.specs.Losses.{Sites}
use Rattle.cs_schema.specs.Rows.{Row}
use Rattle.cs_schema.specs.declared.cells.Cells.{Cells}
use Rattle.cs_store.specs.FileSet.{contents_of}
use Rattle.cs_store.specs.declared.fault.Fault.{Fault}
use Rattle.cs_safety.specs.Safety.{IsSafe}
use Rattle.cs_rows.specs.WalkedView.{count_of}
use Rattle.cs_recovery.specs.Claims.{IsOnlyTable}
use Rattle.cs_recovery.specs.Columns.{rows_in}
use Rattle.cs_recovery.specs.Holding.{Holds, HoldsSurvivors}
use Rattle.cs_recovery.specs.Verdicts.{IsRebuildVerdict, NamesItsSites}
use Rattle.cs_tables.specs.Loading.{HoldsTableOf, IsFull}
use Rattle.cs_tables.specs.ByName.{by_name}
use Rattle.cs_tables.specs.Differences.{first_difference}
use Rattle.cs_tables.specs.declared.load_fault.FullRange.{FullRange}
use Rattle.cs_tables.specs.declared.relayout_fault.RelayoutFault.{RelayoutFault}
use Rattle.cs_tables.specs.declared.relayout_fault.RelayoutFault.TheVariants as fault
use Rattle.cs_tables.specs.declared.laying.Relaid.{Relaid}

-- the catalogs have the same columns and primary key, and the new one is safe where no site is lost
pub record MayFollow (old new : CatalogData) : Type 0 where
  pub same : first_difference old new ≡ None
  pub safe : IsSafe new []

-- the table that the survivors of a safe loss hold and no other, its columns by name those of the new catalog
pub record IsSurvivingTable (old : CatalogData) (F : FileContents) (L : Sites) (new : CatalogData) (T : List Row) : Type 0 where
  pub sites : NamesItsSites old L
  pub safe : IsSafe old L
  pub table : List Row
  pub only : IsOnlyTable (HoldsSurvivors old F L) table
  pub is : T ≡ map (by_name old new) table

-- files hold that table, whole and no other, of which there are so many rows
pub record IsLaidOut (old : CatalogData) (F : FileContents) (L : Sites) (new : CatalogData) (relaid : Relaid) : Type 0 where
  pub may : MayFollow old new
  pub table : List Row
  pub survives : IsSurvivingTable old F L new table
  pub holds : Holds new (contents_of relaid.files) table
  pub count : relaid.rows ≡ length table

-- the least range of the new catalog that is too large for that table
pub record IsTooLarge (old : CatalogData) (F : FileContents) (L : Sites) (new : CatalogData) (full : FullRange) : Type 0 where
  pub may : MayFollow old new
  pub table : List Row
  pub survives : IsSurvivingTable old F L new table
  pub is : IsFull new table full

-- What `relayout` answers: files that hold the table of the survivors, or the first refusal.
abbrev pub LaysOut : CatalogData → FileContents → Sites → CatalogData → Result Relaid RelayoutFault → Type 0
LaysOut old F L new (Ok relaid) = IsLaidOut old F L new relaid
LaysOut old F L new (Err fault.Memory) = ⊤
LaysOut old F L new (Err (fault.Differs d)) = first_difference old new ≡ Some d
LaysOut old F L new (Err fault.Unsafe) = (first_difference old new ≡ None) × (¬ IsSafe new [])
LaysOut old F L new (Err (fault.Store e)) = MayFollow old new × (e ≢ Fault.Memory) × IsRebuildVerdict old F L (Err e)
LaysOut old F L new (Err (fault.Full full)) = IsTooLarge old F L new full

-- a fault of a store as one of a store that is laid out anew
abbrev pub IsStoreFaultOf : Fault → RelayoutFault → Type 0
IsStoreFaultOf e fault.Memory = ⊤
IsStoreFaultOf e (fault.Store f) = (e ≡ f) × (e ≢ Fault.Memory)
IsStoreFaultOf e _ = ⊥

-- what rows in columns with different primary keys make: a store that holds their table, or which range is too large
abbrev pub MakesStore : CatalogData → List Cells → Result Relaid RelayoutFault → Type 0
MakesStore C cells (Ok relaid) = HoldsTableOf C (rows_in cells) (contents_of relaid.files) × (relaid.rows ≡ count_of cells)
MakesStore C cells (Err fault.Memory) = ⊤
MakesStore C cells (Err (fault.Full full)) = IsFull C (rows_in cells) full
MakesStore C cells (Err _) = ⊥
