-- The body of a column of values under each code.
use Rattle.std.specs.Prelude.{◌≡◌, ℕ, ◌≤◌, ℤ, pos, List, [], length, map}
use Rattle.cs_schema.specs.declared.kinds.Code.{Code}
use Rattle.cs_schema.specs.declared.kinds.Kind.{Kind}
use Rattle.cs_schema.specs.declared.cells.Value.{Value}
use Rattle.cs_schema.specs.Values.{value_eq, value_cmp, IsOfKind}
use Rattle.cs_schema.specs.Lists.{IsIn}
use Rattle.cs_schema.specs.Order.{row_limit}
use Rattle.cs_codec.specs.Cells.{int_cell, text_cell}
use Rattle.cs_codec.specs.Texts.{plain_text, runs_text, differences_text, bitmaps_text, NeverFalls}

-- the bytes of a cell
abbrev pub cell_bytes : Value → List ℕ
cell_bytes (Value.Int x) = int_cell x
cell_bytes (Value.Text b) = text_cell b

abbrev pub int_of : Value → ℤ
int_of (Value.Int x) = x
int_of (Value.Text b) = pos 0

abbrev pub column_text : Code → List Value → List ℕ
column_text Code.Runs v = runs_text cell_bytes value_eq v
column_text Code.Bitmaps v = bitmaps_text cell_bytes value_eq value_cmp v
column_text Code.Differences v = differences_text (map int_of v)
column_text Code.Plain v = plain_text cell_bytes v

-- what a code requires of a column
abbrev pub FitsCode : Code → Kind → List Value → Type 0
FitsCode Code.Differences Kind.Int v = NeverFalls (map int_of v)
FitsCode Code.Differences Kind.Text v = v ≡ []
FitsCode Code.Runs k v = Unit {0}
FitsCode Code.Bitmaps k v = Unit {0}
FitsCode Code.Plain k v = Unit {0}

-- a column has a body: it is not too long, its cells are of the kind, and it fits the code
pub record FitsColumn (code : Code) (kind : Kind) (v : List Value) : Type 0 where
  pub count : length v ≤ row_limit
  pub cells : (x : Value) → IsIn x v → IsOfKind kind x
  pub order : FitsCode code kind v
