-- What `dump` writes: the table that survives a loss, as CSV.
use Rattle.std.specs.Prelude.{◌≡◌, ℕ, List, [], Option, Result, Ok, Err}
use Rattle.std.specs.Io.KnownBytes.{Appends}
use Rattle.cs_schema.specs.CatalogData.{CatalogData}
use Rattle.cs_schema.specs.CatalogRules.{IsCatalog}
use Rattle.cs_schema.specs.FileNames.{FileContents}
use Rattle.cs_schema.specs.Losses.{Sites}
use Rattle.cs_schema.specs.Rows.{Row}
use Rattle.cs_schema.specs.declared.cells.Cells.{Cells}
use Rattle.cs_store.specs.Fault.{MemoryOr}
use Rattle.cs_recovery.specs.Claims.{IsOnlyTable, SameSurvivors}
use Rattle.cs_recovery.specs.Columns.{AreColumnsOf}
use Rattle.cs_recovery.specs.Holding.{Holds, HoldsSurvivors}
use Rattle.cs_recovery.specs.Verdicts.{IsRebuildVerdict}
use Rattle.cs_csv.specs.FaultOf.{IsOutside}
use Rattle.cs_csv.specs.Writing.{table_text}
use Rattle.cs_tables.specs.declared.dumping.DumpFault.{DumpFault}
use Rattle.cs_tables.specs.declared.dumping.DumpFault.TheVariants as fault

-- the text of the one table that the surviving files of a safe loss hold, its rows by primary key
pub record IsTableText (C : CatalogData) (F : FileContents) (L : Sites) (text : List ℕ) : Type 0 where
  pub table : List Row
  pub only : IsOnlyTable (HoldsSurvivors C F L) table
  pub columns : List Cells
  pub are : AreColumnsOf C table columns
  pub is : text ≡ table_text C.columns columns

-- What `dump` answers: the text is appended, or `rebuild`'s verdict refuses the store, or the writer failed.
abbrev pub DumpsTable : {W : Type 0} → (W → Option (List ℕ)) → CatalogData → FileContents → Sites → W → Result W DumpFault → Type 0
DumpsTable contents C F L output (Ok written) = (text : List ℕ) × IsTableText C F L text × Appends (contents output) (contents written) text
DumpsTable contents C F L output (Err (fault.Store e)) = MemoryOr e (IsRebuildVerdict C F L (Err e))
DumpsTable contents C F L output (Err (fault.Text f)) = IsOutside f

-- Where files hold a table, whatever a loss leaves of them gives the same text, whatever stands in the lost places.
abbrev pub DumpsTheSame : Type 0
DumpsTheSame =
    (C : CatalogData) → IsCatalog C → (T : List Row) (F G : FileContents) (L : Sites) (a b : List ℕ) → Holds C F T → SameSurvivors C L F G
    → IsTableText C F [] a → IsTableText C G L b → a ≡ b
