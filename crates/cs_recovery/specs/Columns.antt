-- Rows in columns: a column of cells for each column of the table.
use Rattle.std.specs.Prelude.{◌≡◌, ℕ, ◌<◌, List, map, length, slice_index_or}
use Rattle.cs_schema.specs.declared.cells.Cells.{Cells}
use Rattle.cs_schema.specs.CatalogData.{CatalogData, column}
use Rattle.cs_schema.specs.Rows.{Row, cell}
use Rattle.cs_schema.specs.Values.{values, kind_of}
use Rattle.cs_rows.specs.WalkedView.{rows_of, count_of}

-- the rows of columns: the i-th has the i-th cell of each
abbrev pub rows_in : List Cells → List Row
rows_in columns = rows_of columns (count_of columns)

-- one column for each column of the table, of its kind, and all of the same length
pub record AreTableColumns (C : CatalogData) (columns : List Cells) : Type 0 where
  pub count : length columns ≡ length C.columns
  pub kinds : (c : ℕ) (d : Cells) → c < length C.columns → kind_of (slice_index_or columns c d) ≡ (column C c).kind
  pub even : (c : ℕ) (d : Cells) → c < length C.columns → length (values (slice_index_or columns c d)) ≡ count_of columns

-- one column for each column of the table, of its kind, with the cells of these rows in order
pub record AreColumnsOf (C : CatalogData) (rows : List Row) (columns : List Cells) : Type 0 where
  pub count : length columns ≡ length C.columns
  pub kinds : (c : ℕ) (d : Cells) → c < length C.columns → kind_of (slice_index_or columns c d) ≡ (column C c).kind
  pub cells : (c : ℕ) (d : Cells) → c < length C.columns → values (slice_index_or columns c d) ≡ map (λ row. cell row c) rows
