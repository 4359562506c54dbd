-- The cells of an inserted row as a plain list.
use Rattle.std.specs.Prelude.{◌+◌, ◌≤◌, List, length, take, drop}
use Rattle.cs_schema.specs.declared.cells.Value.{Value}
use Rattle.cs_delta.specs.declared.item.ItemRow.TheInside.{Inside}

abbrev pub row_cells : Inside → List Value
row_cells a = take a.width (drop a.from a.cells.now)

abbrev pub IsWithin : Inside → Type 0
IsWithin a = a.from + a.width ≤ length a.cells.now
