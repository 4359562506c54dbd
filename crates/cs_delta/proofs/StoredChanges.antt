-- The changes of a layer's items stay the same while cells are added to it.
use Rattle.std.proofs.Common.{◌≡◌, ℕ, ◌≤◌, List, [], ◌∷◌, ◌++◌, map, length, take, drop, refl, ap, ◌∙◌, arith, pos}
use Rattle.std.specs.List.{All}
use Rattle.std.proofs.lemmas.List.{map_push, length-append, length-drop, get_or_append_left, take-append-le, drop-append-le}
use Rattle.std.proofs.lemmas.List.Elements.{All-head, All-tail, All-push, All-weaker}
use Rattle.cs_schema.specs.declared.cells.Value.{Value}
use Rattle.cs_schema.specs.CatalogData.{CatalogData}
use Rattle.cs_codec.specs.ColumnText.{cell_bytes}
use Rattle.cs_delta.specs.Image.{Change}
use Rattle.cs_delta.specs.declared.stored_item.StoredItem.{StoredItem}
use Rattle.cs_delta.specs.StoredItems.{stored_change, AreAmong}
use Rattle.cs_delta.proofs.Sequences.{IsReadSoFar}
use Rattle.cs_delta.proofs.ItemTexts.{next_column, IsCellAt}

-- the cells of a row that have been added so far
pub record IsRowSoFar (C : CatalogData) (p : ℕ) (bytes : List ℕ) (old new : List Value) (rest : List ℕ) (j : ℕ) : Type 0 where
  pub row : List Value
  pub added : new ≡ old ++ row
  pub so_far : IsReadSoFar cell_bytes next_column (IsCellAt C p) 0 bytes row rest
  pub count : length row ≡ j

-- cells that are appended after those of an item do not change it
same_change : (cells more : List Value) (width : ℕ) (item : StoredItem) → AreAmong (length cells) width item → stored_change (cells ++ more) width item ≡ stored_change cells width item
same_change cells more width (StoredItem.Insert at key from) h =
    let front : drop from (cells ++ more) ≡ drop from cells ++ more = drop-append-le from cells more (omega arith) in
    ap (Change.insert at key) (ap (take width) front ∙ take-append-le width (drop from cells) more (omega (arith, length-drop from cells)))
same_change cells more width (StoredItem.Delete at) h = refl
same_change cells more width (StoredItem.Modify at j from) h = ap (Change.modify at j) (get_or_append_left cells more (Value.Int (pos 0)) from h)

same_changes : (cells more : List Value) (width : ℕ) (items : List StoredItem) → All (AreAmong (length cells) width) items → map (stored_change (cells ++ more) width) items ≡ map (stored_change cells width) items
same_changes cells more width [] h = refl
same_changes cells more width (item ∷ items) h =
    ap (λ (c : Change). c ∷ map (stored_change (cells ++ more) width) items) (same_change cells more width item (All-head (AreAmong (length cells) width) item items h))
    ∙ ap (λ (l : List Change). stored_change cells width item ∷ l) (same_changes cells more width items (All-tail (AreAmong (length cells) width) item items h))

-- one more item, and its cells
pub changes_more : (cells new more : List Value) (width : ℕ) (items next : List StoredItem) (item : StoredItem) → new ≡ cells ++ more → next ≡ items ++ item ∷ [] → All (AreAmong (length cells) width) items → map (stored_change new width) next ≡ map (stored_change cells width) items ++ stored_change new width item ∷ []
changes_more cells new more width items next item e n h =
    ap (map (stored_change new width)) n ∙ map_push (stored_change new width) items item
    ∙ ap (λ (l : List Change). l ++ stored_change new width item ∷ []) (ap (λ (cs : List Value). map (stored_change cs width) items) e ∙ same_changes cells more width items h)

more_among : (few many width : ℕ) (item : StoredItem) → few ≤ many → AreAmong few width item → AreAmong many width item
more_among few many width (StoredItem.Insert at key from) l h = omega arith
more_among few many width (StoredItem.Delete at) l h = tt
more_among few many width (StoredItem.Modify at j from) l h = omega arith

pub among_more : (cells new more : List Value) (width : ℕ) (items next : List StoredItem) (item : StoredItem) → new ≡ cells ++ more → next ≡ items ++ item ∷ [] → All (AreAmong (length cells) width) items → AreAmong (length new) width item → All (AreAmong (length new) width) next
among_more cells new more width items next item e n h k =
    let longer : length cells ≤ length new = omega (arith, ap length e, length-append cells more) in
    rw n (All-push (AreAmong (length new) width) items item (All-weaker (AreAmong (length cells) width) (AreAmong (length new) width) (λ x a. more_among (length cells) (length new) width x longer a) items h) k)
