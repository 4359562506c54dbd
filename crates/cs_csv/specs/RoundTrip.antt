-- What the cells of a table and its names must be, for the text of the table to read as the table.
use Rattle.std.specs.Prelude.{◌≡◌, ◌≢◌, ◌⊎◌, ℕ, ◌<◌, List, length, slice_index}
use Rattle.cs_csv.specs.Columns.{column}
use Rattle.cs_schema.specs.Values.{IsOfKind}
use Rattle.cs_schema.specs.CatalogData.{ColumnData}
use Rattle.cs_csv.specs.FaultOf.{IsOutside}
use Rattle.cs_csv.specs.Faults.{cells_at, most_rows}
use Rattle.cs_csv.specs.declared.fault.CsvFault.{CsvFault}
use Rattle.cs_csv.specs.declared.fault.CsvFault.TheVariants as fault
use Rattle.cs_csv.specs.Writing.{row_count, value_at}
use Rattle.cs_schema.specs.declared.cells.Cells.{Cells}

-- cells of a table's columns: as many columns, and each cell of its column's kind
pub record CellsFit (columns : List ColumnData) (cells : List Cells) : Type 0 where
  pub some : 0 < length columns
  pub count : length cells ≡ length columns
  pub kinds : (c n : ℕ) → c < length columns → n < row_count cells → IsOfKind (column columns c).kind (value_at (cells_at cells c) n)

-- the text of a table begins with no byte order mark
abbrev pub HasNoMark : List ColumnData → Type 0
HasNoMark columns = slice_index (column columns 0).name 0 ≢ 0xEF

-- no fault of the text of a table, but that it has more rows than a table can have
abbrev pub IsTripFault : ℕ → CsvFault → Type 0
IsTripFault rows f = IsOutside f ⊎ ((f ≡ fault.TooMany) × (most_rows < rows))
