-- A layer as a list of changes.
use Rattle.std.specs.Prelude.{List, map, length}
use Rattle.std.specs.List.{All}
use Rattle.cs_delta.specs.Image.{Change}
use Rattle.cs_delta.specs.declared.layer.Layer.TheInside.{Inside}
use Rattle.cs_delta.specs.StoredItems.{stored_change, AreAmong}

abbrev pub layer_changes : Inside → List Change
layer_changes a = map (stored_change a.cells a.width) a.items.items

abbrev pub HaveCells : Inside → Type 0
HaveCells a = All (AreAmong (length a.cells) a.width) a.items.items
