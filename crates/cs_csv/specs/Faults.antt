-- What the records of a text must be, and where one is not.
use Rattle.std.specs.Prelude.{◌≡◌, ◌≢◌, ◌⊎◌, ℕ, ◌+◌, ◌<◌, ◌≤◌, Bool, true, false, List, [], ◌∷◌, map, length, slice_index, slice_index_or, IsUtf8, ⊤, ◌++◌}
use Rattle.cs_csv.specs.Columns.{column}
use Rattle.cs_csv.specs.Headers.{IsHeader, IsHeaderFault}
use Rattle.cs_csv.specs.Shown.{shown}
use Rattle.cs_csv.specs.FaultOf.{IsOutside}
use Rattle.cs_schema.specs.CatalogData.{ColumnData}
use Rattle.cs_schema.specs.Values.{values, kind_of}
use Rattle.cs_schema.specs.declared.cells.Value.{Value}
use Rattle.cs_csv.specs.Fields.{Record, field, IsInt, IsCellOf, cell_of, kind_at}
use Rattle.cs_schema.specs.declared.kinds.Kind.{Kind}
use Rattle.cs_schema.specs.declared.kinds.Kind.TheVariants as kind
use Rattle.cs_schema.specs.declared.cells.Cells.{Cells}
use Rattle.cs_csv.specs.declared.fault.FieldFault.{FieldFault}
use Rattle.cs_csv.specs.declared.fault.FieldFault.TheVariants as why
use Rattle.cs_csv.specs.declared.fault.CsvFault.{CsvFault}
use Rattle.cs_csv.specs.declared.fault.CsvFault.TheVariants as fault

-- more rows than any catalog has room for: a projection has 16 ranges at most, each of at most 1,048,576 rows
abbrev pub most_rows : ℕ
most_rows = 16777216

-- the fields of a record that the header names as the columns before column `n` are cells of them
abbrev pub FitsBefore : List ColumnData → Record → Record → ℕ → Type 0
FitsBefore columns header r n =
    (c i : ℕ) → c < n → i < length columns → field header i ≡ (column columns c).name → IsCellOf (column columns c).kind (field r i)

-- a record is a row: a field for each column, and each a cell of its kind
abbrev pub IsRowOf : List ColumnData → Record → Record → Type 0
IsRowOf columns header r = (length r ≡ length columns) × FitsBefore columns header r (length columns)

abbrev pub row : List Record → ℕ → Record
row rows n = slice_index_or rows n []

-- the records before `n` are rows
abbrev pub AreRows : List ColumnData → Record → List Record → ℕ → Type 0
AreRows columns header rows n = (m : ℕ) → m < n → IsRowOf columns header (row rows m)

-- why a field is no cell of a kind
abbrev pub Refuses : Kind → List ℕ → FieldFault → Type 0
Refuses kind.Int text (why.NotInt cell) = (¬ IsInt text) × (cell ≡ shown text)
Refuses kind.Text text why.NotText = ¬ IsUtf8 text
Refuses kind.Text text (why.TooLong bytes) = IsUtf8 text × (255 < length text) × (bytes ≡ length text)
Refuses k text why.Memory = ⊤
Refuses k text _ = ⊥

-- the first fault is of the field of column `c` in record `n`: the records before it are rows, and the columns before it have cells there
pub record IsFieldFault (columns : List ColumnData) (header : Record) (rows : List Record) (n c : ℕ) (why : FieldFault) : Type 0 where
  pub there : n < length rows
  pub few : n < most_rows
  pub known : c < length columns
  pub earlier : AreRows columns header rows n
  pub width : length (row rows n) ≡ length columns
  pub place : ℕ
  pub within : place < length columns
  pub name : field header place ≡ (column columns c).name
  pub before : FitsBefore columns header (row rows n) c
  pub refused : Refuses (column columns c).kind (field (row rows n) place) why

-- the first fault is the width of record `n`
pub record IsWidthFault (columns : List ColumnData) (header : Record) (rows : List Record) (n cells : ℕ) : Type 0 where
  pub there : n < length rows
  pub few : n < most_rows
  pub earlier : AreRows columns header rows n
  pub is : cells ≡ length (row rows n)
  pub other : cells ≢ length columns

-- the text ends within a quoted cell, after so many records: a header and rows
pub record IsUnclosedFault (columns : List ColumnData) (header : Record) (rows : List Record) (unclosed : Bool) (n : ℕ) : Type 0 where
  pub is_open : unclosed ≡ true
  pub few : length rows ≤ most_rows
  pub earlier : AreRows columns header rows (length rows)
  pub is : n ≡ length rows + 1

-- what a fault says of the records after a header, and of whether the text ends within a quoted cell after them
abbrev pub IsRowFault : List ColumnData → Record → List Record → Bool → CsvFault → Type 0
IsRowFault columns header rows unclosed fault.TooMany = (most_rows < length rows) × AreRows columns header rows most_rows
IsRowFault columns header rows unclosed (fault.Width n cells) = IsWidthFault columns header rows n cells
IsRowFault columns header rows unclosed (fault.NotInt n c cell) = IsFieldFault columns header rows n c (why.NotInt cell)
IsRowFault columns header rows unclosed (fault.NotText n c) = IsFieldFault columns header rows n c why.NotText
IsRowFault columns header rows unclosed (fault.TooLong n c bytes) = IsFieldFault columns header rows n c (why.TooLong bytes)
IsRowFault columns header rows unclosed (fault.Unclosed n) = IsUnclosedFault columns header rows unclosed n
IsRowFault columns header rows unclosed _ = ⊥

-- what a fault says of the closed records of a text, of which the first is the header, and of whether the text ends
-- within a quoted cell after them: a text with no record has an empty header, unless it ends within a quoted cell of it
abbrev pub IsTextFault : List ColumnData → List Record → Bool → CsvFault → Type 0
IsTextFault columns [] false f = IsHeaderFault columns [] f
IsTextFault columns [] true f = f ≡ fault.Unclosed 0
IsTextFault columns (header ∷ rows) unclosed f = IsHeaderFault columns header f ⊎ (IsHeader columns header × IsRowFault columns header rows unclosed f)

-- memory ran out, the reader failed, or it is the first fault of the text
abbrev pub IsFirstFault : List ColumnData → List Record → Bool → CsvFault → Type 0
IsFirstFault columns records unclosed f = IsOutside f ⊎ IsTextFault columns records unclosed f

-- the cells of a column, of which the header names the field at place `i`
abbrev pub column_values : ColumnData → ℕ → List Record → List Value
column_values column i rows = map (λ r. cell_of column.kind (field r i)) rows

abbrev pub cells_at : List Cells → ℕ → List Value
cells_at cells c = slice_index_or (map values cells) c []

abbrev pub kinds_of : List Cells → List Kind
kinds_of cells = map kind_of cells

-- a field is a cell of a column, and the column has it as its last cell more
abbrev pub AddsField : List Cells → List Cells → List ℕ → ℕ → Type 0
AddsField before after text c = IsCellOf (kind_at (kinds_of before) c) text
    × (cells_at after c ≡ cells_at before c ++ cell_of (kind_at (kinds_of before) c) text ∷ [])

-- the first column whose field, at its place in a record, is no cell of it
pub record IsFirstRefused (cells : List Cells) (places : List ℕ) (r : Record) (c : ℕ) (why : FieldFault) : Type 0 where
  pub within : c < length places
  pub before : (d : ℕ) → d < c → IsCellOf (kind_at (kinds_of cells) d) (field r (slice_index places d))
  pub refused : Refuses (kind_at (kinds_of cells) c) (field r (slice_index places c)) why

-- columns hold the rows under a header, each the fields that the header names so
pub record HoldsRows (columns : List ColumnData) (header : Record) (rows : List Record) (cells : List Cells) : Type 0 where
  pub few : length rows ≤ most_rows
  pub header_holds : IsHeader columns header
  pub rows_hold : AreRows columns header rows (length rows)
  pub kinds : kinds_of cells ≡ map (λ c. c.kind) columns
  pub cells_hold : (c i : ℕ) → c < length columns → i < length columns → field header i ≡ (column columns c).name
      → cells_at cells c ≡ column_values (column columns c) i rows
