-- Images by positional updates (Héman et al., SIGMOD 2010): a base, or a lower image, with a list of items applied.
use Rattle.std.specs.Prelude.{ℕ, ◌+◌, ◌==◌, Bool, false, if◌then◌else◌, List, [], ◌∷◌, ◌++◌, map, length, Option, Some, None, slice_set}
use Rattle.std.specs.List.{filter_map, list_any, position, enumerate_from}
use Rattle.cs_schema.specs.declared.cells.Value.{Value}
use Rattle.cs_schema.specs.Lists.{numbers_below}
use Rattle.cs_segment.specs.SegmentFile.{Base, base_row}

-- a change at a position, from 0: insert a row with this key before it, delete its row, or replace the row's j-th cell
pub data Change : Type 0 where
  insert : ℕ → ℕ → List Value → Change
  delete : ℕ → Change
  modify : ℕ → ℕ → Value → Change

-- a storage key and the cells of its row
abbrev pub Pair : Type 0
Pair = ℕ × List Value

-- ---- the image

abbrev pub inserted_at : ℕ → Change → Option Pair
inserted_at i (Change.insert at key row) = if at == i then Some (key, row) else None
inserted_at i (Change.delete at) = None
inserted_at i (Change.modify at j v) = None

abbrev pub deletes : ℕ → Change → Bool
deletes i (Change.insert at key row) = false
deletes i (Change.delete at) = at == i
deletes i (Change.modify at j v) = false

abbrev pub modified_by : ℕ → List Value → Change → List Value
modified_by i row (Change.insert at key x) = row
modified_by i row (Change.delete at) = row
modified_by i row (Change.modify at j v) = if at == i then slice_set row j v else row

abbrev pub modified : ℕ → List Change → List Value → List Value
modified i [] row = row
modified i (c ∷ cs) row = modified i cs (modified_by i row c)

-- the pair at i with its cells modified, unless it is deleted
abbrev pub kept : List Change → ℕ → Pair → List Pair
kept items i x = if list_any (deletes i) items then [] else (x.0, modified i items x.1) ∷ []

-- from position i on: at each position the rows inserted there, then its pair if it is kept; at the end, the rows
-- inserted there
abbrev pub applied_from : List Change → ℕ → List Pair → List Pair
applied_from items i [] = filter_map (inserted_at i) items
applied_from items i (x ∷ xs) = filter_map (inserted_at i) items ++ kept items i x ++ applied_from items (i + 1) xs

abbrev pub applied : List Change → List Pair → List Pair
applied items xs = applied_from items 0 xs

-- the layers applied one after the other, the lowest first
abbrev pub layered : List (List Change) → List Pair → List Pair
layered [] xs = xs
layered (l ∷ ls) xs = layered ls (applied l xs)

-- the rows of a base with their keys: row i has key i + 1
abbrev pub base_pairs : Base → List Pair
base_pairs b = map (λ i. (i + 1, base_row b i)) (numbers_below b.rows)

-- ---- images

-- the live rows in order, each with its key, and the highest key ever given in the segment
pub record ImageData : Type 0 where
  pub pairs : List Pair
  pub top : ℕ

abbrev pub image_keys : ImageData → List ℕ
image_keys m = map (λ x. x.0) m.pairs

abbrev pub image_rows : ImageData → List (List Value)
image_rows m = map (λ x. x.1) m.pairs

-- the position of the live row with this key
abbrev pub position_of_key : ImageData → ℕ → Option ℕ
position_of_key m key = position (λ k. k == key) (image_keys m)

-- the image of newly written rows: their keys are 1, 2, 3, ..
abbrev pub fresh_image : List (List Value) → ImageData
fresh_image xs = record { pairs = enumerate_from 1 xs; top = length xs }
