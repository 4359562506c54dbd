-- Columns that fit a code, and the bytes that are a column's body.
use Rattle.std.specs.Prelude.{◌≡◌, ℕ, ◌≤◌, ◌<◌, ◌^◌, List, length}
use Rattle.cs_schema.specs.declared.kinds.Code.{Code}
use Rattle.cs_schema.specs.declared.kinds.Kind.{Kind}
use Rattle.cs_schema.specs.declared.cells.Value.{Value}
use Rattle.cs_schema.specs.Order.{row_limit}
use Rattle.cs_codec.specs.ColumnText.{column_text, FitsCode, FitsColumn}

-- a column of cells of one kind can be encoded: it is not too long, and it fits the code
pub record CanEncode (code : Code) (kind : Kind) (v : List Value) : Type 0 where
  pub count : length v ≤ row_limit
  pub order : FitsCode code kind v

-- the bytes are the body of this column, which has this kind and number of rows
pub record IsColumnOf (code : Code) (kind : Kind) (bytes : List ℕ) (rows : ℕ) (v : List Value) : Type 0 where
  pub text_is : bytes ≡ column_text code v
  pub rows_are : length v ≡ rows
  pub fits : FitsColumn code kind v

-- no column of this kind and number of rows has the bytes as its body
abbrev pub NoColumn : Code → Kind → List ℕ → ℕ → Type 0
NoColumn code kind bytes rows = (v : List Value) → IsColumnOf code kind bytes rows v → ⊥

-- no two columns of one kind have the same body under one code
abbrev pub HaveOneColumn : Type 0
HaveOneColumn = (code : Code) (kind : Kind) (x y : List Value) → FitsColumn code kind x → FitsColumn code kind y → column_text code x ≡ column_text code y → x ≡ y

-- the body of a column has fewer than 2 ^ 32 bytes
abbrev pub ColumnTextsAreShort : Type 0
ColumnTextsAreShort = (code : Code) (kind : Kind) (v : List Value) → FitsColumn code kind v → length (column_text code v) < 2 ^ 32
