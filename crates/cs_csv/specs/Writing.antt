-- The records of a table, and their text.
use Rattle.std.specs.Prelude.{◌≡◌, ℕ, ◌<◌, false, List, [], ◌∷◌, ◌++◌, map, length, slice_index_or}
use Rattle.std.specs.Fmt.{signed_decimal}
use Rattle.std.specs.List.{range_with_len}
use Rattle.csv.specs.Writing.{default_writer, fields_written, has_written, row_text, writer_setup}
use Rattle.csv.specs.declared.writer.Writer.{Writer}
use Rattle.cs_schema.specs.CatalogData.{ColumnData}
use Rattle.cs_schema.specs.Values.{values}
use Rattle.cs_schema.specs.declared.cells.Value.{Value}
use Rattle.cs_schema.specs.declared.cells.Value.TheVariants.{Int, Text}
use Rattle.cs_csv.specs.Fields.{Record}
use Rattle.cs_csv.specs.Faults.{cells_at}
use Rattle.cs_schema.specs.declared.cells.Cells.{Cells}

-- the text of a cell
abbrev pub value_text : Value → List ℕ
value_text (Int z) = signed_decimal z
value_text (Text t) = t

abbrev pub value_at : List Value → ℕ → Value
value_at cells n = slice_index_or cells n (Text [])

-- row n of columns, as fields
abbrev pub row_record : List Cells → ℕ → Record
row_record cells n = map (λ c. value_text (value_at (values c) n)) cells

-- the names of columns
abbrev pub names_record : List ColumnData → Record
names_record columns = map (λ c. c.name) columns

-- how many rows columns have
abbrev pub row_count : List Cells → ℕ
row_count cells = length (cells_at cells 0)

-- each column has as many cells
abbrev pub AreEven : List Cells → Type 0
AreEven cells = (c : ℕ) → c < length cells → length (cells_at cells c) ≡ row_count cells

abbrev pub rows_records : List Cells → ℕ → List Record
rows_records cells n = map (row_record cells) (range_with_len 0 n)

-- the header, and the rows
abbrev pub table_records : List ColumnData → List Cells → List Record
table_records columns cells = names_record columns ∷ rows_records cells (row_count cells)

-- the text of records, as csv's default writer writes them
unfoldable pub records_text : List Record → List ℕ
records_text [] = []
records_text (r ∷ rest) = row_text default_writer r ++ records_text rest

-- the text of a table
abbrev pub table_text : List ColumnData → List Cells → List ℕ
table_text columns cells = records_text (table_records columns cells)

-- a writer with csv's defaults, between two records
abbrev pub IsBetween : {W : Type 0} → Writer W → Type 0
IsBetween w = (writer_setup w ≡ default_writer) × (fields_written w ≡ 0) × (has_written w ≡ false)
