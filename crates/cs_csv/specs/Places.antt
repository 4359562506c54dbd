-- Which field of a record is of which column.
use Rattle.std.specs.Prelude.{◌≡◌, ℕ, ◌<◌, List, length, slice_index}
use Rattle.cs_csv.specs.Columns.{column}
use Rattle.cs_schema.specs.CatalogData.{ColumnData}
use Rattle.cs_csv.specs.Fields.{Record, field}

-- for each column the field of the header that is its name
pub record ArePlaces (columns : List ColumnData) (header : Record) (places : List ℕ) : Type 0 where
  pub count : length places ≡ length columns
  pub within : (c : ℕ) → c < length columns → slice_index places c < length header
  pub named : (c : ℕ) → c < length columns → field header (slice_index places c) ≡ (column columns c).name
