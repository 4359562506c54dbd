-- The parts of a recovery, stated of an `OrderedStore`.
use Rattle.std.specs.Prelude.{◌≡◌, ℕ, List, Option, map}
use Rattle.std.specs.Option.{option_or}
use Rattle.cs_schema.specs.CatalogData.{CatalogData}
use Rattle.cs_schema.specs.FileNames.{FileContents}
use Rattle.cs_schema.specs.Losses.{Sites}
use Rattle.cs_schema.specs.Order.{rows_of}
use Rattle.cs_schema.specs.Rows.{Row, project}
use Rattle.cs_rows.specs.Survivors.{SurvivorsData, contents_of}
use Rattle.cs_rows.specs.Walk.{Contents}
use Rattle.cs_order.specs.Tables.{table_of}
use Rattle.cs_segment.specs.SegmentFile.{base_of, segment_text}
use Rattle.cs_delta.specs.Image.{ImageData}
use Rattle.cs_jix.specs.JoinIndex.{Place}
use Rattle.cs_store.specs.declared.fault.Fault.{Fault}
use Rattle.cs_recovery.specs.Expected.{written}
use Rattle.cs_recovery.specs.Places.{entries_for, entry_for, image_after}
use Rattle.cs_recovery.specs.Verdicts.{misplaced, misled}
use Rattle.cs_rebuild.specs.Steps.{HoldsTable}
use Rattle.cs_rebuild.specs.declared.ordered_store.OrderedStore.{OrderedStore}

-- what the survivors hold
abbrev pub held_on : OrderedStore → Contents
held_on g = contents_of g.survivors.now

-- the table of the walked rows
abbrev pub table_on : OrderedStore → List Row
table_on g = table_of g.catalog.now g.walked.rows

-- the file of a segment of the table
abbrev pub segment_file_on : OrderedStore → ℕ → ℕ → List ℕ
segment_file_on g p s = segment_text g.catalog.now p s (base_of g.catalog.now p (map (project g.catalog.now p) (rows_of g.catalog.now (table_on g) p s)))

-- the image of a segment after the recovery
abbrev pub image_on : OrderedStore → ℕ → ℕ → ImageData
image_on g p s = image_after g.catalog.now g.loss (held_on g) (table_on g) p s

-- the entries of a join index after the recovery
abbrev pub entries_on : OrderedStore → ℕ → ℕ → ℕ → List Place
entries_on g p s q = entries_for g.catalog.now g.loss (held_on g) (table_on g) p s q

-- the files that a recovery writes
abbrev pub written_on : OrderedStore → FileContents
written_on g = written g.catalog.now g.loss (held_on g) (table_on g)

-- the fault of the first surviving file that does not hold what the table requires of it, images first
abbrev pub contradiction_on : OrderedStore → Option Fault
contradiction_on g = option_or (misplaced g.catalog.now g.loss (held_on g) (table_on g)) (misled g.catalog.now g.loss (held_on g) (table_on g))

-- the rows are a table's, and the surviving files hold it
abbrev pub IsSound : OrderedStore → Type 0
IsSound g = (F : FileContents) × HoldsTable g.catalog.now F g.loss g.survivors.now g.walked

-- the store has this catalog, this loss and these survivors
pub record IsStoreOf (C : CatalogData) (L : Sites) (v : SurvivorsData) (g : OrderedStore) : Type 0 where
  pub catalog : g.catalog.now ≡ C
  pub loss : g.loss ≡ L
  pub survivors : g.survivors.now ≡ v

-- the entry of a join index for a key after the recovery
pub record IsEntryOn (g : OrderedStore) (p s q key : ℕ) (entry : Place) : Type 0 where
  pub entry_is : entry ≡ entry_for g.catalog.now g.loss (held_on g) (table_on g) p s q key
