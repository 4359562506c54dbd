-- The content of a cell as a plain value.
use Rattle.std.specs.Prelude.{◌≤◌, length}
use Rattle.cs_schema.specs.declared.cells.Value.{Value}
use Rattle.cs_delta.specs.declared.layer_cells.CellContent.{CellContent}

abbrev pub content_value : CellContent → Value
content_value (CellContent.Int int) = Value.Int int
content_value (CellContent.Text text) = Value.Text text.now

-- a text has at most 255 bytes
abbrev pub IsShort : CellContent → Type 0
IsShort (CellContent.Int int) = Unit {0}
IsShort (CellContent.Text text) = length text.now ≤ 255
