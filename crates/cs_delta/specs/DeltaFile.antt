-- The files of deltas, of both versions, and the image that a base has under a delta.
use Rattle.std.specs.Prelude.{◌≡◌, ℕ, ◌+◌, ◌-◌, ◌<◌, ◌≤◌, ◌==◌, nat_lt, nat_le, Bool, true, false, if◌then◌else◌, List, [], ◌∷◌, ◌++◌, map, length, codes, Option, Some, None, IsTrue, ◌^◌, ◌⊎◌, count_by}
use Rattle.std.specs.List.{concat, filter_map, flat_map, IsDistinct, AllAdjacentBelow}
use Rattle.cs_schema.specs.declared.cells.Value.{Value}
use Rattle.cs_schema.specs.Lists.{IsIn}
use Rattle.cs_schema.specs.Values.{IsOfKind}
use Rattle.cs_schema.specs.Rows.{cell}
use Rattle.cs_schema.specs.Order.{row_limit}
use Rattle.cs_schema.specs.CatalogData.{CatalogData, projection, kind_at}
use Rattle.cs_codec.specs.ColumnText.{cell_bytes}
use Rattle.cs_segment.specs.Bytes.{be16, be32}
use Rattle.cs_segment.specs.SegmentFile.{sealed, Base}
use Rattle.cs_delta.specs.Image.{Change, Pair, ImageData, applied, layered, base_pairs}

-- a delta: its version, the number of rows of its base, the highest key ever given in the segment, and its layers, the
-- lowest first
pub record DeltaData : Type 0 where
  pub p : ℕ
  pub s : ℕ
  pub version : ℕ
  pub rows : ℕ
  pub top : ℕ
  pub layers : List (List Change)

abbrev pub key_limit : ℕ
key_limit = 4194304

-- ---- items

abbrev pub position_of_change : Change → ℕ
position_of_change (Change.insert at key row) = at
position_of_change (Change.delete at) = at
position_of_change (Change.modify at j v) = at

-- the row has a cell for each column of the projection, of the column's kind
abbrev pub IsCellsOf : CatalogData → ℕ → List Value → Type 0
IsCellsOf C p row = (length row ≡ length (projection C p).columns) × ((j : ℕ) → j < length row → IsOfKind (kind_at C p j) (cell row j))

-- a valid item on n rows; the key of an inserted row is above those of the base, and at most `top`
abbrev pub IsChange : CatalogData → ℕ → DeltaData → ℕ → Change → Type 0
IsChange C p d n (Change.insert at key row) = (at ≤ n) × (d.rows < key) × (key ≤ d.top) × IsCellsOf C p row
IsChange C p d n (Change.delete at) = at < n
IsChange C p d n (Change.modify at j v) = (at < n) × (j < length (projection C p).columns) × IsOfKind (kind_at C p j) v

-- whether an item may come right after another: items ascend by position, and at one position insertions come first,
-- then one deletion or modifications of ascending columns
abbrev pub may_follow : Change → Change → Bool
may_follow (Change.insert at key row) c = nat_le at (position_of_change c)
may_follow (Change.delete at) c = nat_lt at (position_of_change c)
may_follow (Change.modify at j v) (Change.modify to k w) = if at == to then nat_lt j k else nat_lt at to
may_follow (Change.modify at j v) (Change.insert to key row) = nat_lt at to
may_follow (Change.modify at j v) (Change.delete to) = nat_lt at to

abbrev pub inserted_key : Change → Option ℕ
inserted_key (Change.insert at key row) = Some key
inserted_key (Change.delete at) = None
inserted_key (Change.modify at j v) = None

-- ---- layers

abbrev pub is_insert : Change → Bool
is_insert (Change.insert at key row) = true
is_insert (Change.delete at) = false
is_insert (Change.modify at j v) = false

abbrev pub is_delete : Change → Bool
is_delete (Change.insert at key row) = false
is_delete (Change.delete at) = true
is_delete (Change.modify at j v) = false

-- the number of rows after a layer on n rows
abbrev pub rows_after : ℕ → List Change → ℕ
rows_after n l = n + count_by is_insert l - count_by is_delete l

-- a valid layer on n rows; its number of items, and each position, fit 4 bytes
pub record IsLayer (C : CatalogData) (p : ℕ) (d : DeltaData) (n : ℕ) (l : List Change) : Type 0 where
  pub number : length l < 2 ^ 32
  pub below : n < 2 ^ 32
  pub items : (c : Change) → IsIn c l → IsChange C p d n c
  pub order : AllAdjacentBelow (λ c e. IsTrue (may_follow c e)) l (length l)

-- each layer is valid on the rows that the layers below it leave
abbrev pub AreLayersFrom : CatalogData → ℕ → DeltaData → ℕ → List (List Change) → Type 0
AreLayersFrom C p d n [] = Unit {0}
AreLayersFrom C p d n (l ∷ ls) = IsLayer C p d n l × AreLayersFrom C p d (rows_after n l) ls

-- version 1 has one layer, version 2 has one to three
abbrev pub HasVersion : ℕ → ℕ → Type 0
HasVersion version layers = (version ≡ 1) × (layers ≡ 1) ⊎ (version ≡ 2) × (1 ≤ layers) × (layers ≤ 3)

pub record IsDelta (C : CatalogData) (p : ℕ) (d : DeltaData) : Type 0 where
  pub version : HasVersion d.version (length d.layers)
  pub count : d.rows ≤ row_limit
  pub least_top : d.rows ≤ d.top
  pub top_limit : d.top ≤ key_limit
  pub layers : AreLayersFrom C p d d.rows d.layers
  pub keys : IsDistinct ◌==◌ (flat_map (filter_map inserted_key) d.layers)

-- ---- bytes

abbrev pub change_bytes : Change → List ℕ
change_bytes (Change.insert at key row) = 1 ∷ be32 at ++ be32 key ++ concat (map cell_bytes row)
change_bytes (Change.delete at) = 2 ∷ be32 at
change_bytes (Change.modify at j v) = 3 ∷ be32 at ++ j ∷ cell_bytes v

abbrev pub layer_text : List Change → List ℕ
layer_text l = be32 (length l) ++ concat (map change_bytes l)

abbrev pub delta_body : DeltaData → List ℕ
delta_body d =
    (if d.version == 1 then codes "CSDEL001" else codes "CSDEL002") ++ be16 d.p ++ be16 d.s ++ be32 d.rows ++ be32 d.top
    ++ (if d.version == 1 then [] else length d.layers ∷ []) ++ concat (map layer_text d.layers)

abbrev pub delta_text : DeltaData → List ℕ
delta_text d = sealed (delta_body d)

-- the bytes are the file of this delta
pub record IsDeltaFile (C : CatalogData) (p s : ℕ) (bytes : List ℕ) (d : DeltaData) : Type 0 where
  pub p_is : d.p ≡ p
  pub s_is : d.s ≡ s
  pub delta : IsDelta C p d
  pub text : bytes ≡ delta_text d

-- the empty delta on n rows
abbrev pub no_changes : ℕ → ℕ → ℕ → DeltaData
no_changes p s n = record { p = p; s = s; version = 1; rows = n; top = n; layers = [] ∷ [] }

-- ---- merging

-- the image: a base with a delta's layers applied
abbrev pub merged : Base → DeltaData → ImageData
merged b d = record { pairs = layered d.layers (base_pairs b); top = d.top }

-- no layer leaves more rows than a segment may have
abbrev pub AllFit : List (List Change) → List Pair → Type 0
AllFit [] xs = Unit {0}
AllFit (l ∷ ls) xs = (length (applied l xs) ≤ row_limit) × AllFit ls (applied l xs)

-- the delta is for a base of this many rows, and no layer leaves too many rows
pub record CanMerge (b : Base) (d : DeltaData) : Type 0 where
  pub rows : b.rows ≡ d.rows
  pub few : AllFit d.layers (base_pairs b)
