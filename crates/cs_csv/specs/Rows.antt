-- What holds after so many rows.
use Rattle.std.specs.Prelude.{◌≡◌, ℕ, ◌<◌, List, ◌∷◌, length, map, slice_index, Option}
use Rattle.csv.specs.declared.reader.Reader.{Reader}
use Rattle.cs_schema.specs.CatalogData.{ColumnData}
use Rattle.cs_csv.specs.Columns.{column}
use Rattle.cs_csv.specs.Fields.{Record}
use Rattle.cs_csv.specs.Faults.{AreRows, cells_at, column_values, kinds_of}
use Rattle.cs_csv.specs.Headers.{IsHeader}
use Rattle.cs_csv.specs.Places.{ArePlaces}
use Rattle.cs_csv.specs.Reading.{HasRead}
use Rattle.cs_schema.specs.declared.cells.Cells.{Cells}

-- the header says these places, and columns hold the rows after it
pub record HoldsSoFar (columns : List ColumnData) (header : Record) (rows : List Record) (places : List ℕ) (cells : List Cells) : Type 0 where
  pub is_header : IsHeader columns header
  pub are_places : ArePlaces columns header places
  pub kinds : kinds_of cells ≡ map (λ c. c.kind) columns
  pub are_rows : AreRows columns header rows (length rows)
  pub held : (c : ℕ) → c < length columns → cells_at cells c ≡ column_values (column columns c) (slice_index places c) rows

-- the reader has read them, and a record ahead
pub record RowsRead {R : Type 0} (rem : R → Option (List ℕ)) (known : Option (List ℕ)) (rdr : Reader R) (ahead : Record) (columns : List ColumnData) (places : List ℕ) (cells : List Cells) (n : ℕ) (header : Record) (rows : List Record) : Type 0 where
  pub read : HasRead rem known rdr ahead (header ∷ rows)
  pub size : length rows ≡ n
  pub holds : HoldsSoFar columns header rows places cells
