-- Cells, their kinds and their order.
use Rattle.std.specs.Prelude.{◌≡◌, ℕ, ◌≤◌, Bool, true, List, map, length, FitsSigned}
use Rattle.std.specs.Ordering.{is_eq, is_le, int_cmp, nat_cmp}
use Rattle.std.specs.Cmp.Lexicographic.{slice_cmp}
use Rattle.std.specs.List.{concat}
use Rattle.std.specs.Str.{IsUtf8}
use Rattle.std.specs.Int.{w64}
use Rattle.std.specs.declared.cmp.Ordering.{Ordering}
use Rattle.std.specs.declared.cmp.Ordering.TheVariants.{Less, Greater}
use Rattle.cs_schema.specs.declared.kinds.Kind.{Kind}
use Rattle.cs_schema.specs.declared.cells.Value.{Value}
use Rattle.cs_schema.specs.declared.cells.Cells.{Cells}

-- ints by number, texts by their bytes, an int before a text
abbrev pub value_cmp : Value → Value → Ordering
value_cmp (Value.Int x) (Value.Int y) = int_cmp x y
value_cmp (Value.Int x) (Value.Text b) = Less
value_cmp (Value.Text a) (Value.Int y) = Greater
value_cmp (Value.Text a) (Value.Text b) = slice_cmp nat_cmp a b

abbrev pub value_eq : Value → Value → Bool
value_eq v w = is_eq (value_cmp v w)

-- an int of 64 bits, or UTF-8 text of at most 255 bytes
abbrev pub IsOfKind : Kind → Value → Type 0
IsOfKind Kind.Int (Value.Int x) = FitsSigned w64 x
IsOfKind Kind.Text (Value.Text b) = IsUtf8 b × (length b ≤ 255)
IsOfKind Kind.Int (Value.Text b) = ⊥
IsOfKind Kind.Text (Value.Int x) = ⊥

-- the least cell of a kind
pub record IsLeastOfKind (kind : Kind) (least : Value) : Type 0 where
  pub of_kind : IsOfKind kind least
  pub at_most : (v : Value) → IsOfKind kind v → is_le (value_cmp least v) ≡ true

-- the kind that a value has
abbrev pub value_kind : Value → Kind
value_kind (Value.Int x) = Kind.Int
value_kind (Value.Text b) = Kind.Text

-- what `Cells` are in a contract
abbrev pub values : Cells → List Value
values (Cells.Ints ints) = map Value.Int ints.items
values (Cells.Texts texts) = map Value.Text texts

-- the kind of all of them
abbrev pub kind_of : Cells → Kind
kind_of (Cells.Ints ints) = Kind.Int
kind_of (Cells.Texts texts) = Kind.Text

-- the bytes of all their texts
abbrev pub text_size : Cells → ℕ
text_size (Cells.Ints ints) = 0
text_size (Cells.Texts texts) = length (concat texts)
