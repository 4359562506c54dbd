-- Layers applied column by column, and lists of pairs that are stored as keys and columns.
use Rattle.std.specs.Prelude.{◌≡◌, ℕ, ◌+◌, ◌<◌, slice_index, List, [], ◌∷◌, map, length, slice_index_or}
use Rattle.std.specs.List.{AllByRecursion}
use Rattle.cs_schema.specs.declared.kinds.Kind.{Kind}
use Rattle.cs_schema.specs.declared.cells.Value.{Value}
use Rattle.cs_schema.specs.Lists.{IsIn}
use Rattle.cs_schema.specs.Rows.{cell}
use Rattle.cs_delta.specs.Image.{Change, Pair, layered}
use Rattle.cs_delta.specs.DeltaFile.{AllFit}
use Rattle.cs_schema.specs.Lists.{numbers_below}
use Rattle.cs_delta.specs.Edits.{AreEdits, edited_from}
use Rattle.cs_delta.specs.ItemView.{cell_edits, key_edits, HasKind}

abbrev pub HasWidth : ℕ → Change → Type 0
HasWidth width (Change.insert at key row) = length row ≡ width
HasWidth width (Change.delete at) = Unit {0}
HasWidth width (Change.modify at j v) = Unit {0}

-- the items are a layer on n rows with columns of these kinds
pub record IsLayerOf (kinds : List Kind) (n : ℕ) (items : List Change) : Type 0 where
  pub keys : AreEdits n 0 (key_edits items)
  pub cells : (j : ℕ) → j < length kinds → AreEdits n 0 (cell_edits j items)
  pub kinds_are : (j : ℕ) → j < length kinds → (c : Change) → IsIn c items → HasKind (slice_index_or kinds j Kind.Int) j c
  pub widths : (c : Change) → IsIn c items → HasWidth (length kinds) c

abbrev pub key_of : Pair → ℕ
key_of x = x.0

abbrev pub cell_of : ℕ → Pair → Value
cell_of j x = cell x.1 j

-- the pairs have these keys, and their cells are these columns
pub record ArePairs (keys : List ℕ) (columns : List (List Value)) (xs : List Pair) : Type 0 where
  pub keys_are : map key_of xs ≡ keys
  pub cells_are : (j : ℕ) → j < length columns → map (cell_of j) xs ≡ slice_index_or columns j []
  pub widths : AllByRecursion (λ x. length x.1 ≡ length columns) xs

-- the columns, the first of which has number j, with the items applied
abbrev pub edited_columns : List Change → ℕ → List (List Value) → List (List Value)
edited_columns items j [] = []
edited_columns items j (v ∷ vs) = edited_from (cell_edits j items) 0 v ∷ edited_columns items (j + 1) vs

-- each is a layer on the rows that those below it leave; the lowest is on rows with these keys
abbrev pub AreLayers : List Kind → List ℕ → List (List Change) → Type 0
AreLayers kinds keys [] = Unit {0}
AreLayers kinds keys (l ∷ ls) = IsLayerOf kinds (length keys) l × AreLayers kinds (edited_from (key_edits l) 0 keys) ls

-- the pairs that these keys and columns store
abbrev pub pairs_of : List ℕ → List (List Value) → List Pair
pairs_of keys columns = map (λ i. (slice_index keys i, map (λ v. cell v i) columns)) (numbers_below (length keys))

-- each column has n cells
abbrev pub HaveLength : ℕ → List (List Value) → Type 0
HaveLength n columns = (j : ℕ) → j < length columns → length (slice_index_or columns j []) ≡ n

-- the layers, applied to any pairs with the old keys and columns, give pairs with the new ones, and none leaves too
-- many rows
pub record IsMadeBy (keys : List ℕ) (columns : List (List Value)) (layers : List (List Change)) (new_keys : List ℕ) (new_columns : List (List Value)) : Type 0 where
  pub pairs : (xs : List Pair) → ArePairs keys columns xs → ArePairs new_keys new_columns (layered layers xs)
  pub few : (xs : List Pair) → map key_of xs ≡ keys → AllFit layers xs
  pub keys_are : (xs : List Pair) → map key_of xs ≡ keys → map key_of (layered layers xs) ≡ new_keys
