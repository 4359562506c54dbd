-- What the fields of records are as cells.
use Rattle.std.specs.Prelude.{◌≡◌, ℕ, ◌<◌, ◌≤◌, List, [], length, slice_index_or, FitsSigned, IsUtf8}
use Rattle.std.specs.Int.{w64}
use Rattle.std.specs.Str.Parse.{IsNumeral, signed_digits_value, without_leading_sign}
use Rattle.cs_schema.specs.declared.cells.Value.{Value}
use Rattle.cs_schema.specs.declared.cells.Value.TheVariants.{Int, Text}
use Rattle.cs_schema.specs.declared.kinds.Kind.{Kind}
use Rattle.cs_schema.specs.declared.kinds.Kind.TheVariants as kind

-- a field is its bytes, and a record its fields
abbrev pub Record : Type 0
Record = List (List ℕ)

-- the field at a place
abbrev pub field : Record → ℕ → List ℕ
field r i = slice_index_or r i []

-- what i64's FromStr takes: a sign or none, and then digits of a number of 64 bits
abbrev pub IsInt : List ℕ → Type 0
IsInt text = IsUtf8 text × IsNumeral 10 (without_leading_sign text) × FitsSigned w64 (signed_digits_value 10 text)

-- UTF-8 of at most 255 bytes
abbrev pub IsShortText : List ℕ → Type 0
IsShortText text = IsUtf8 text × (length text ≤ 255)

-- a field is a cell of a kind
abbrev pub IsCellOf : Kind → List ℕ → Type 0
IsCellOf kind.Int text = IsInt text
IsCellOf kind.Text text = IsShortText text

-- the cell that such a field is
abbrev pub cell_of : Kind → List ℕ → Value
cell_of kind.Int text = Int (signed_digits_value 10 text)
cell_of kind.Text text = Text text

abbrev pub kind_at : List Kind → ℕ → Kind
kind_at kinds i = slice_index_or kinds i kind.Int

-- a field for each of these kinds, and no more
abbrev pub IsRow : List Kind → Record → Type 0
IsRow kinds r = (length r ≡ length kinds) × ((i : ℕ) → i < length kinds → IsCellOf (kind_at kinds i) (field r i))
