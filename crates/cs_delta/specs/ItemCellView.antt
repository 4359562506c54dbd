-- An item's cell as a plain value.
use Rattle.std.specs.Prelude.{◌<◌, length}
use Rattle.cs_schema.specs.declared.cells.Value.{Value}
use Rattle.cs_schema.specs.Rows.{cell}
use Rattle.cs_delta.specs.declared.item_cell.ItemCell.TheInside.{Inside}

abbrev pub cell_value : Inside → Value
cell_value c = cell c.cells.now c.at

abbrev pub IsAmong : Inside → Type 0
IsAmong c = c.at < length c.cells.now
