-- The cells of a layer as plain values.
use Rattle.std.specs.Prelude.{ℕ, ◌<◌, List, [], map, length, slice_index_or}
use Rattle.std.specs.List.{All}
use Rattle.cs_schema.specs.declared.cells.Value.{Value}
use Rattle.cs_delta.specs.declared.layer_cells.CellPlace.{CellPlace}
use Rattle.cs_delta.specs.declared.layer_cells.LayerCells.TheInside.{Inside}

-- the cell that is stored so, if the block has these texts
abbrev pub placed : List (List ℕ) → CellPlace → Value
placed texts (CellPlace.Int int) = Value.Int int
placed texts (CellPlace.Text at) = Value.Text (slice_index_or texts at [])

abbrev pub cell_values : Inside → List Value
cell_values a = map (placed a.texts) a.places.items

-- the index of a text is within the block
abbrev pub IsThere : List (List ℕ) → CellPlace → Type 0
IsThere texts (CellPlace.Int int) = Unit {0}
IsThere texts (CellPlace.Text at) = at < length texts

abbrev pub AreThere : Inside → Type 0
AreThere a = All (IsThere a.texts) a.places.items
