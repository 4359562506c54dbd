-- The columns of one catalog as those of another, taken by name.
use Rattle.std.specs.Prelude.{◌≡◌, ℕ, ◌<◌, Bool, List, map, length, slice_index_or}
use Rattle.std.specs.List.{list_any, position_or_len}
use Rattle.cs_schema.specs.CatalogData.{CatalogData, ColumnData}
use Rattle.cs_schema.specs.Rows.{Row, cell}
use Rattle.cs_schema.specs.Rules.{same_text}
use Rattle.cs_schema.specs.declared.cells.Cells.{Cells}
use Rattle.cs_csv.specs.Columns.{column}

-- whether a column has this name
abbrev pub has_column : List ColumnData → List ℕ → Bool
has_column columns name = list_any (λ c. same_text c.name name) columns

-- the number of the column of this name
abbrev pub column_named : List ColumnData → List ℕ → ℕ
column_named columns name = position_or_len (λ c. same_text c.name name) columns

-- a row of one catalog as one of another: the cells of the columns of its names
abbrev pub by_name : CatalogData → CatalogData → Row → Row
by_name old new row = map (λ c. cell row (column_named old.columns c.name)) new.columns

-- the number in the old catalog of the column with the name of a new one
abbrev pub old_column : List ColumnData → List ColumnData → ℕ → ℕ
old_column old new c = column_named old (column new c).name

-- columns of the old catalog in the order of the new one
pub record AreArranged (old new : List ColumnData) (columns arranged : List Cells) : Type 0 where
  pub count : length arranged ≡ length new
  pub same : (c : ℕ) (d : Cells) → c < length new → slice_index_or arranged c d ≡ slice_index_or columns (old_column old new c) d
