-- The columns of a table, by their names.
use Rattle.std.specs.Prelude.{◌≡◌, ℕ, ◌<◌, List, length, slice_index_or}
use Rattle.cs_schema.specs.CatalogData.{ColumnData, no_column}

-- the column of this number
abbrev pub column : List ColumnData → ℕ → ColumnData
column columns c = slice_index_or columns c no_column

-- no two columns have one name
abbrev pub NamesDiffer : List ColumnData → Type 0
NamesDiffer columns = (c d : ℕ) → c < length columns → d < length columns → (column columns c).name ≡ (column columns d).name → c ≡ d
