-- The stored items of a layer as plain changes.
use Rattle.std.specs.Prelude.{ℕ, ◌+◌, ◌<◌, ◌≤◌, List, take, drop}
use Rattle.cs_schema.specs.declared.cells.Value.{Value}
use Rattle.cs_schema.specs.Rows.{cell}
use Rattle.cs_delta.specs.Image.{Change}
use Rattle.cs_delta.specs.declared.stored_item.StoredItem.{StoredItem}

-- the change that an item of a layer with these cells is, if rows have this width
abbrev pub stored_change : List Value → ℕ → StoredItem → Change
stored_change cells width (StoredItem.Insert at key from) = Change.insert at key (take width (drop from cells))
stored_change cells width (StoredItem.Delete at) = Change.delete at
stored_change cells width (StoredItem.Modify at j from) = Change.modify at j (cell cells from)

-- the item's cells are among the `count` cells of its layer
abbrev pub AreAmong : ℕ → ℕ → StoredItem → Type 0
AreAmong count width (StoredItem.Insert at key from) = from + width ≤ count
AreAmong count width (StoredItem.Delete at) = Unit {0}
AreAmong count width (StoredItem.Modify at j from) = from < count
