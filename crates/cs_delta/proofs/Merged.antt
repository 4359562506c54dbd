-- A base and a delta merge to the image.
use Rattle.std.proofs.Common.{◌≡◌, ℕ, ◌+◌, ◌<◌, List, [], ◌∷◌, ◌++◌, map, length, get_or, sym, ap, ◌∙◌, arith, pos}
use Rattle.std.proofs.lemmas.List.FromFn.{get_or-map-range_with_len, length-map-range_with_len, map-range_with_len_more}
use Rattle.cs_schema.specs.declared.kinds.Kind.{Kind}
use Rattle.cs_schema.specs.declared.cells.Value.{Value}
use Rattle.cs_delta.specs.Image.{Pair, base_pairs, ImageData, image_keys}
use Rattle.cs_segment.specs.SegmentFile.{Base}
use Rattle.cs_delta.specs.Layers.{ArePairs, HaveLength, IsMadeBy, pairs_of, key_of, cell_of}
use Rattle.cs_delta.specs.Image.{layered}
use Rattle.cs_delta.specs.DeltaFile.{DeltaData, merged, CanMerge}
use Rattle.cs_delta.specs.KindedImage.{KindedImage, base_keys, image_column}
use Rattle.cs_delta.proofs.PairsKept.{made_pairs, pairs_are, kept_pairs}

pub length-base_keys : (n : ℕ) → length (base_keys n) ≡ n
length-base_keys n = length-map-range_with_len (λ i. i + 1) 0 n

pub base_keys_more : (n : ℕ) → base_keys (n + 1) ≡ base_keys n ++ (n + 1) ∷ []
base_keys_more n = map-range_with_len_more (λ i. i + 1) 0 n n (omega arith)

pub base_are : (b : Base) → HaveLength b.rows b.columns → ArePairs (base_keys b.rows) b.columns (base_pairs b)
base_are b h = made_pairs b.rows (λ i. i + 1) b.columns (base_keys b.rows) (length-base_keys b.rows) (λ i l. sym (get_or-map-range_with_len (λ k. k + 1) 0 b.rows i i 0 l (omega arith))) h

pub merged_is : (b : Base) (d : DeltaData) (kinds made_kinds : List Kind) (keys : List ℕ) (columns : List (List Value)) (top : ℕ) → HaveLength b.rows b.columns → IsMadeBy (base_keys b.rows) b.columns d.layers keys columns → top ≡ d.top → made_kinds ≡ kinds
    → (let m : KindedImage = record { kinds = made_kinds; image = record { pairs = pairs_of keys columns; top = top } } in let n : KindedImage = record { kinds = kinds; image = merged b d } in m ≡ n)
merged_is b d kinds made_kinds keys columns top h m et ek =
    let pairs : pairs_of keys columns ≡ layered d.layers (base_pairs b) = sym (pairs_are keys columns (layered d.layers (base_pairs b)) (m.pairs (base_pairs b) (base_are b h))) in
    ap (λ (x : List Pair). let r : KindedImage = record { kinds = made_kinds; image = record { pairs = x; top = top } } in r) pairs
    ∙ ap (λ (t : ℕ). let r : KindedImage = record { kinds = made_kinds; image = record { pairs = layered d.layers (base_pairs b); top = t } } in r) et
    ∙ ap (λ (k : List Kind). let r : KindedImage = record { kinds = k; image = merged b d } in r) ek

pub can_merge : (b : Base) (d : DeltaData) (keys : List ℕ) (columns : List (List Value)) → HaveLength b.rows b.columns → b.rows ≡ d.rows → IsMadeBy (base_keys b.rows) b.columns d.layers keys columns → CanMerge b d
can_merge b d keys columns h e m = record { rows = e; few = m.few (base_pairs b) (base_are b h).keys_are }

-- the columns, keys and rows of an image that is stored as keys and columns
pub column_is : (keys : List ℕ) (columns : List (List Value)) (m : ImageData) (j : ℕ) → m.pairs ≡ pairs_of keys columns → HaveLength (length keys) columns → j < length columns → image_column m j ≡ get_or columns j []
column_is keys columns m j e h l = ap (map (cell_of j)) e ∙ (kept_pairs keys columns h).cells_are j l

pub keys_are : (keys : List ℕ) (columns : List (List Value)) (m : ImageData) → m.pairs ≡ pairs_of keys columns → HaveLength (length keys) columns → image_keys m ≡ keys
keys_are keys columns m e h = ap (map key_of) e ∙ (kept_pairs keys columns h).keys_are

pub rows_are : (keys : List ℕ) (columns : List (List Value)) (m : ImageData) → m.pairs ≡ pairs_of keys columns → length m.pairs ≡ length keys
rows_are keys columns m e = ap length e ∙ length-map-range_with_len (λ i. (get_or keys i 0, map (λ v. get_or v i (Value.Int (pos 0))) columns)) 0 (length keys)
