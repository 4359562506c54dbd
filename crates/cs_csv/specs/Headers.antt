-- What a header must be, and the first thing that is wrong with one that is not.
use Rattle.std.specs.Prelude.{◌≡◌, ◌≢◌, ℕ, ◌<◌, List, length, ⊤}
use Rattle.cs_csv.specs.Columns.{NamesDiffer, column}
use Rattle.cs_schema.specs.CatalogData.{ColumnData}
use Rattle.cs_csv.specs.Fields.{Record, field}
use Rattle.cs_csv.specs.Shown.{shown}
use Rattle.cs_csv.specs.declared.fault.CsvFault.{CsvFault}
use Rattle.cs_csv.specs.declared.fault.CsvFault.TheVariants as fault

-- each column's name once, and nothing else: no two columns have one name, as many fields as columns, no two of them the
-- same, each column's name one of them, and each of them a column's name
pub record IsHeader (columns : List ColumnData) (header : Record) : Type 0 where
  pub differ : NamesDiffer columns
  pub count : length header ≡ length columns
  pub once : (i j : ℕ) → i < length columns → j < length columns → field header i ≡ field header j → i ≡ j
  pub each : (c : ℕ) → c < length columns → (i : ℕ) × (i < length columns) × (field header i ≡ (column columns c).name)
  pub named : (i : ℕ) → i < length columns → (c : ℕ) × (c < length columns) × ((column columns c).name ≡ field header i)

-- a field is the name of no column
abbrev pub NoColumn : List ColumnData → Record → ℕ → Type 0
NoColumn columns header i = (c : ℕ) → c < length columns → (column columns c).name ≢ field header i

-- the name of a column is no field
abbrev pub NoField : List ColumnData → Record → ℕ → Type 0
NoField columns header c = (i : ℕ) → i < length header → field header i ≢ (column columns c).name

-- the fields before a place are names of columns, no two of them the same
pub record AreNamesBefore (columns : List ColumnData) (header : Record) (n : ℕ) : Type 0 where
  pub named : (i : ℕ) → i < n → (c : ℕ) × (c < length columns) × ((column columns c).name ≡ field header i)
  pub once : (i j : ℕ) → i < n → j < i → field header j ≢ field header i

-- the first field that is not the name of a column that comes first there, is no column's name, and shown so
pub record IsUnknown (columns : List ColumnData) (header : Record) (name : List ℕ) : Type 0 where
  pub place : ℕ
  pub there : place < length header
  pub before : AreNamesBefore columns header place
  pub none : NoColumn columns header place
  pub is : name ≡ shown (field header place)

-- that field names column c again
pub record IsTwice (columns : List ColumnData) (header : Record) (c : ℕ) : Type 0 where
  pub known : c < length columns
  pub place : ℕ
  pub there : place < length header
  pub before : AreNamesBefore columns header place
  pub again : (i : ℕ) × (i < place) × (field header i ≡ field header place)
  pub named : (column columns c).name ≡ field header place

-- every field is such a name, and column c is the first that none names
pub record IsMissing (columns : List ColumnData) (header : Record) (c : ℕ) : Type 0 where
  pub known : c < length columns
  pub names : AreNamesBefore columns header (length header)
  pub earlier : (d : ℕ) → d < c → (i : ℕ) × (i < length header) × (field header i ≡ (column columns d).name)
  pub none : NoField columns header c

-- what a fault says of a header
abbrev pub IsHeaderFault : List ColumnData → Record → CsvFault → Type 0
IsHeaderFault columns header fault.Memory = ⊤
IsHeaderFault columns header (fault.Unknown name) = IsUnknown columns header name
IsHeaderFault columns header (fault.Twice c) = IsTwice columns header c
IsHeaderFault columns header (fault.Missing c) = IsMissing columns header c
IsHeaderFault columns header _ = ⊥
