-- Items as plain changes, and as edits of a column and of the keys.
use Rattle.std.specs.Prelude.{◌≡◌, ℕ, ◌<◌, ◌==◌, if◌then◌else◌, List, length, Option, Some, None}
use Rattle.std.specs.List.{filter_map}
use Rattle.cs_schema.specs.declared.kinds.Kind.{Kind}
use Rattle.cs_schema.specs.declared.cells.Value.{Value}
use Rattle.cs_schema.specs.Values.{value_kind}
use Rattle.cs_schema.specs.Rows.{cell}
use Rattle.cs_delta.specs.Image.{Change}
use Rattle.cs_delta.specs.declared.item.Item.{Item}
use Rattle.cs_delta.specs.Edits.{Edit}

abbrev pub change_of : Item → Change
change_of (Item.Insert at key row) = Change.insert at key row
change_of (Item.Delete at) = Change.delete at
change_of (Item.Modify at j v) = Change.modify at j v

abbrev pub cell_edit : ℕ → Change → Option (Edit Value)
cell_edit j (Change.insert at key row) = Some (Edit.put at (cell row j))
cell_edit j (Change.delete at) = Some (Edit.cut at)
cell_edit j (Change.modify at k v) = if k == j then Some (Edit.change at v) else None

abbrev pub key_edit : Change → Option (Edit ℕ)
key_edit (Change.insert at key row) = Some (Edit.put at key)
key_edit (Change.delete at) = Some (Edit.cut at)
key_edit (Change.modify at k v) = None

abbrev pub cell_edits : ℕ → List Change → List (Edit Value)
cell_edits j items = filter_map (cell_edit j) items

abbrev pub key_edits : List Change → List (Edit ℕ)
key_edits items = filter_map key_edit items

-- the cell that the item has for column j, if any, has the column's kind
abbrev pub HasKind : Kind → ℕ → Change → Type 0
HasKind kind j (Change.insert at key row) = (j < length row) × (value_kind (cell row j) ≡ kind)
HasKind kind j (Change.delete at) = Unit {0}
HasKind kind j (Change.modify at k v) = k ≡ j → value_kind v ≡ kind
