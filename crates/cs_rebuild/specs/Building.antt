-- Columns that a caller passes.
use Rattle.std.specs.Prelude.{ℕ, ◌≤◌, All, IsUtf8, List, length}
use Rattle.cs_schema.specs.declared.cells.Cells.{Cells}
use Rattle.cs_schema.specs.Values.{IsOfKind, kind_of, values}

-- UTF-8 of at most 255 bytes
pub record IsShortText (text : List ℕ) : Type 0 where
  pub utf8 : IsUtf8 text
  pub short : length text ≤ 255

-- the cells of a column are of its kind
abbrev pub IsOneKind : Cells → Type 0
IsOneKind column = All (IsOfKind (kind_of column)) (values column)
