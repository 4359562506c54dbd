-- A table in columns.
use Rattle.std.specs.Prelude.{List}
use Rattle.cs_schema.specs.declared.cells.Cells.{Cells}
use Rattle.cs_schema.specs.CatalogData.{CatalogData}
use Rattle.cs_schema.specs.Rows.{Row, IsTable}
use Rattle.cs_rows.specs.WalkedView.{AreColumns, rows_of, count_of}

-- the rows of columns: the i-th has the i-th cell of each
abbrev pub rows_in : List Cells → List Row
rows_in columns = rows_of columns (count_of columns)

-- columns of the same length, whose rows are a table
pub record IsTableIn (C : CatalogData) (columns : List Cells) : Type 0 where
  pub even : AreColumns columns
  pub table : IsTable C (rows_in columns)
