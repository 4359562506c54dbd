-- Walked rows: the kinds of the columns, and the rows in order.
use Rattle.std.specs.Prelude.{All, ℕ, ◌≡◌, ◌<◌, List, [], ◌∷◌, map, length}
use Rattle.cs_schema.specs.declared.kinds.Kind.{Kind}
use Rattle.cs_schema.specs.declared.cells.Cells.{Cells}
use Rattle.cs_schema.specs.Values.{values, kind_of}
use Rattle.cs_schema.specs.Lists.{numbers_below}
use Rattle.cs_schema.specs.Rows.{Row, cell}
use Rattle.cs_schema.specs.Lists.{IsIn}

pub record WalkedData : Type 0 where
  pub kinds : List Kind
  pub rows : List Row

-- the cells of the columns at an index
abbrev pub row_of : List Cells → ℕ → Row
row_of columns i = map (λ cells. cell (values cells) i) columns

abbrev pub rows_of : List Cells → ℕ → List Row
rows_of columns count = map (row_of columns) (numbers_below count)

-- the length of the first column
abbrev pub count_of : List Cells → ℕ
count_of [] = 0
count_of (x ∷ xs) = length (values x)

abbrev pub walked_data : List Cells → WalkedData
walked_data columns = record { kinds = map kind_of columns; rows = rows_of columns (count_of columns) }

-- at least one column, and all of the same length
pub record AreColumns (columns : List Cells) : Type 0 where
  pub some : 0 < length columns
  pub lengths : (cells : Cells) → IsIn cells columns → length (values cells) ≡ count_of columns

-- each row has a cell for each column
abbrev pub IsWide : WalkedData → Type 0
IsWide w = All (λ row. length row ≡ length w.kinds) w.rows
