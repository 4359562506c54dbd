-- What `build` answers: the files of a new store.
use Rattle.std.specs.Prelude.{◌≡◌, List, Option, None, Some, Result, Ok, Err, IfOk, MatchResult}
use Rattle.std.specs.List.{range_with_len}
use Rattle.std.specs.Option.{option_or}
use Rattle.cs_store.specs.declared.fault.Fault.{Fault}
use Rattle.cs_store.specs.Fault.{MemoryOr}
use Rattle.cs_store.specs.FileSet.{Files, contents_of}
use Rattle.cs_schema.specs.declared.cells.Cells.{Cells}
use Rattle.cs_schema.specs.CatalogData.{CatalogData}
use Rattle.cs_schema.specs.CatalogRules.{IsCatalog}
use Rattle.cs_schema.specs.FileNames.{FileContents, HasName}
use Rattle.cs_schema.specs.Losses.{Sites, IsLoss}
use Rattle.cs_schema.specs.Lists.{IsIn}
use Rattle.cs_schema.specs.Rows.{Row, IsRow, IsTable}
use Rattle.cs_safety.specs.Safety.{IsSafe}
use Rattle.cs_order.specs.Tables.{table_of}
use Rattle.cs_recovery.specs.Columns.{AreColumnsOf, AreTableColumns, rows_in}
use Rattle.cs_recovery.specs.Expected.{AreExpected}
use Rattle.cs_recovery.specs.Holding.{Holds}
use Rattle.cs_recovery.specs.Verdicts.{twice, full}
use Rattle.cs_recovery.specs.Claims.{SameSurvivors, IsRebuildAnswer, put_over}

-- every site of a catalog
abbrev pub every_site : CatalogData → Sites
every_site C = range_with_len 1 C.sites

-- there is no file under any name
abbrev pub no_files : FileContents
no_files n = None

-- why no store holds the table of these rows: a primary key occurs twice, or else the first range that is too large
abbrev pub build_fault : CatalogData → List Row → Option Fault
build_fault C rows = option_or (twice C rows) (full C (table_of C rows))

-- An answer of `build`: the files that recover the table of the rows if every site is lost, the fault of the rows, or
-- out of memory. The files are each segment, its delta without changes, and the join indexes.
abbrev pub IsBuildAnswer : CatalogData → List Row → Result Files Fault → Type 0
IsBuildAnswer C rows (Ok out) = (build_fault C rows ≡ None) × AreExpected C no_files (every_site C) (table_of C rows) (contents_of out)
IsBuildAnswer C rows (Err e) = MemoryOr e (build_fault C rows ≡ Some e)

-- out of memory, or files that restore the store that was built when they are put in place
abbrev pub IsBuiltAgain : CatalogData → FileContents → FileContents → Result Files Fault → Type 0
IsBuiltAgain C built G r = MatchResult r (λ out. (n : _) → HasName C n → put_over (contents_of out) G n ≡ built n) (λ e. e ≡ Fault.Memory)

-- the other clauses of `build` follow from its answer
pub record BuildClauses (C : CatalogData) (rows : List Row) (r : Result Files Fault) : Type 0 where
  pub table : IfOk r (λ out. IsTable C (table_of C rows) × ((row : Row) → IsIn row (table_of C rows) → IsIn row rows) × ((row : Row) → IsIn row rows → IsIn row (table_of C rows)))
  pub holds : IfOk r (λ out. Holds C (contents_of out) (table_of C rows))
  pub recovered : IfOk r (λ out. (G : FileContents) (L : Sites) (s : Result Files Fault) → IsLoss C L → IsSafe C L → SameSurvivors C L (contents_of out) G → IsRebuildAnswer C G L s → IsBuiltAgain C (contents_of out) G s)

abbrev pub BuildAnswersSuffice : Type 0
BuildAnswersSuffice =
    (C : CatalogData) → IsCatalog C → (rows : List Row) → ((row : Row) → IsIn row rows → IsRow C row) → (r : Result Files Fault) → IsBuildAnswer C rows r → BuildClauses C rows r

-- columns with the rows of a table are columns of the catalog, and the table of their rows is that table
pub record AreTheTable (C : CatalogData) (T : List Row) (columns : List Cells) : Type 0 where
  pub fit : AreTableColumns C columns
  pub rows : rows_in columns ≡ T
  pub table : table_of C T ≡ T

abbrev pub ColumnsAreTheTable : Type 0
ColumnsAreTheTable = (C : CatalogData) → IsCatalog C → (T : List Row) → IsTable C T → (columns : List Cells) → AreColumnsOf C T columns → AreTheTable C T columns
