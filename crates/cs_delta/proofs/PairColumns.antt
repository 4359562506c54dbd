-- Applying items to pairs is applying them to the keys and to each column.
use Rattle.std.proofs.Common.{◌≡◌, ℕ, zero, suc, ◌+◌, ◌<◌, ◌==◌, Bool, true, false, cond, ◌||◌, List, [], ◌∷◌, ◌++◌, map, length, get_or, take, refl, sym, ap, subst, ◌∙◌, arith, add-zero, Some, None, eqb-true, eq-eqb, pos, inl, inr}
use Rattle.std.specs.Prelude.{slice_set}
use Rattle.std.specs.List.{filter_map, list_any, cons_option, AllByRecursion}
use Rattle.std.proofs.lemmas.List.{map-append, get_or-set_same, get_or-set_other, length-set, length-map, map_more, length-take}
use Rattle.std.proofs.lemmas.Bool.{false≢true}
use Rattle.cs_schema.specs.declared.kinds.Kind.{Kind}
use Rattle.cs_schema.specs.declared.cells.Value.{Value}
use Rattle.cs_schema.specs.Lists.{IsIn}
use Rattle.cs_schema.specs.Rows.{cell}
use Rattle.cs_delta.specs.Image.{Change, Pair, inserted_at, deletes, modified, kept, applied_from, applied}
use Rattle.cs_delta.specs.Edits.{Edit, put_at, cuts, changed, keep, edited_from}
use Rattle.cs_delta.specs.ItemView.{cell_edits, key_edits}
use Rattle.cs_delta.specs.Layers.{HasWidth, ArePairs, key_of, cell_of, edited_columns}

-- ---- keys

keys_put : (i : ℕ) (items : List Change) → map key_of (filter_map (inserted_at i) items) ≡ filter_map (put_at i) (key_edits items)
keys_put i [] = refl
keys_put i (Change.insert at key row ∷ items) = go (at == i) (keys_put i items)
  where
    go : (b : Bool) → map key_of (filter_map (inserted_at i) items) ≡ filter_map (put_at i) (key_edits items) → map key_of (cons_option (cond b (Some (key, row)) None) (filter_map (inserted_at i) items)) ≡ cons_option (cond b (Some key) None) (filter_map (put_at i) (key_edits items))
    go true e = ap (λ (a : List ℕ). key ∷ a) e
    go false e = e
keys_put i (Change.delete at ∷ items) = keys_put i items
keys_put i (Change.modify at k v ∷ items) = keys_put i items

keys_cut : (i : ℕ) (items : List Change) → list_any (deletes i) items ≡ list_any (cuts i) (key_edits items)
keys_cut i [] = refl
keys_cut i (Change.insert at key row ∷ items) = keys_cut i items
keys_cut i (Change.delete at ∷ items) = ap (λ (b : Bool). (at == i) || b) (keys_cut i items)
keys_cut i (Change.modify at k v ∷ items) = keys_cut i items

keys_same : (i : ℕ) (items : List Change) (key : ℕ) → changed i (key_edits items) key ≡ key
keys_same i [] key = refl
keys_same i (Change.insert at k row ∷ items) key = keys_same i items key
keys_same i (Change.delete at ∷ items) key = keys_same i items key
keys_same i (Change.modify at k v ∷ items) key = keys_same i items key

keys_kept : (i : ℕ) (items : List Change) (x : Pair) → map key_of (kept items i x) ≡ keep (key_edits items) i x.0
keys_kept i items x = go (list_any (deletes i) items) ∙ ap (λ (b : Bool). cond b [] (x.0 ∷ [])) (keys_cut i items) ∙ ap (λ (k : ℕ). cond (list_any (cuts i) (key_edits items)) [] (k ∷ [])) (sym (keys_same i items x.0))
  where
    go : (b : Bool) → map key_of (cond b [] ((x.0, modified i items x.1) ∷ [])) ≡ cond b [] (x.0 ∷ [])
    go true = refl
    go false = refl

pub keys_applied : (i : ℕ) (items : List Change) (xs : List Pair) → map key_of (applied_from items i xs) ≡ edited_from (key_edits items) i (map key_of xs)
keys_applied i items [] = keys_put i items
keys_applied i items (x ∷ xs) =
    map-append key_of (filter_map (inserted_at i) items ++ kept items i x) (applied_from items (i + 1) xs)
    ∙ ap (λ (a : List ℕ). a ++ map key_of (applied_from items (i + 1) xs)) (map-append key_of (filter_map (inserted_at i) items) (kept items i x))
    ∙ ap (λ (a : List ℕ). a ++ map key_of (kept items i x) ++ map key_of (applied_from items (i + 1) xs)) (keys_put i items)
    ∙ ap (λ (a : List ℕ). filter_map (put_at i) (key_edits items) ++ a ++ map key_of (applied_from items (i + 1) xs)) (keys_kept i items x)
    ∙ ap (λ (a : List ℕ). filter_map (put_at i) (key_edits items) ++ keep (key_edits items) i x.0 ++ a) (keys_applied (i + 1) items xs)

-- ---- the cells of a column

cells_put : (j i : ℕ) (items : List Change) → map (cell_of j) (filter_map (inserted_at i) items) ≡ filter_map (put_at i) (cell_edits j items)
cells_put j i [] = refl
cells_put j i (Change.insert at key row ∷ items) = go (at == i) (cells_put j i items)
  where
    go : (b : Bool) → map (cell_of j) (filter_map (inserted_at i) items) ≡ filter_map (put_at i) (cell_edits j items) → map (cell_of j) (cons_option (cond b (Some (key, row)) None) (filter_map (inserted_at i) items)) ≡ cons_option (cond b (Some (cell row j)) None) (filter_map (put_at i) (cell_edits j items))
    go true e = ap (λ (a : List Value). cell row j ∷ a) e
    go false e = e
cells_put j i (Change.delete at ∷ items) = cells_put j i items
cells_put j i (Change.modify at k v ∷ items) = cells_put j i items ∙ go (k == j)
  where
    go : (b : Bool) → filter_map (put_at i) (cell_edits j items) ≡ filter_map (put_at i) (cons_option (cond b (Some (Edit.change at v)) None) (cell_edits j items))
    go true = refl
    go false = refl

cells_cut : (j i : ℕ) (items : List Change) → list_any (deletes i) items ≡ list_any (cuts i) (cell_edits j items)
cells_cut j i [] = refl
cells_cut j i (Change.insert at key row ∷ items) = cells_cut j i items
cells_cut j i (Change.delete at ∷ items) = ap (λ (b : Bool). (at == i) || b) (cells_cut j i items)
cells_cut j i (Change.modify at k v ∷ items) = cells_cut j i items ∙ go (k == j)
  where
    go : (b : Bool) → list_any (cuts i) (cell_edits j items) ≡ list_any (cuts i) (cons_option (cond b (Some (Edit.change at v)) None) (cell_edits j items))
    go true = refl
    go false = refl

pub length-modified : (i : ℕ) (items : List Change) (row : List Value) → length (modified i items row) ≡ length row
length-modified i [] row = refl
length-modified i (Change.insert at key x ∷ items) row = length-modified i items row
length-modified i (Change.delete at ∷ items) row = length-modified i items row
length-modified i (Change.modify at k v ∷ items) row = length-modified i items (cond (at == i) (slice_set row k v) row) ∙ go (at == i)
  where
    go : (b : Bool) → length (cond b (slice_set row k v) row) ≡ length row
    go true = length-set row k v
    go false = refl

cells_changed : (j i : ℕ) (items : List Change) (row : List Value) → j < length row → cell (modified i items row) j ≡ changed i (cell_edits j items) (cell row j)
cells_changed j i [] row l = refl
cells_changed j i (Change.insert at key x ∷ items) row l = cells_changed j i items row l
cells_changed j i (Change.delete at ∷ items) row l = cells_changed j i items row l
cells_changed j i (Change.modify at k v ∷ items) row l = go (at == i) (k == j) refl refl (cells_changed j i items row l) (cells_changed j i items (slice_set row k v) (omega (arith, length-set row k v)))
  where
    none : Value
    none = Value.Int (pos 0)

    here : k ≡ j → cell (slice_set row k v) j ≡ v
    here e = ap (λ m. get_or (slice_set row k v) m (Value.Int (pos 0))) (sym e) ∙ get_or-set_same row k v (Value.Int (pos 0)) (omega arith)

    go : (b d : Bool) → (at == i) ≡ b → (k == j) ≡ d → cell (modified i items row) j ≡ changed i (cell_edits j items) (cell row j) → cell (modified i items (slice_set row k v)) j ≡ changed i (cell_edits j items) (cell (slice_set row k v) j)
        → cell (modified i items (cond b (slice_set row k v) row)) j ≡ changed i (cons_option (cond d (Some (Edit.change at v)) None) (cell_edits j items)) (cell row j)
    go true true eb ed same set = set ∙ ap (λ (z : Value). changed i (cell_edits j items) z) (here (eqb-true k j ed) ∙ sym (ap (λ (c : Bool). cond c v (cell row j)) eb))
    go true false eb ed same set = set ∙ ap (λ (z : Value). changed i (cell_edits j items) z) (get_or-set_other row k j v (Value.Int (pos 0)) (λ e. false≢true (sym ed ∙ eq-eqb k j (sym e))))
    go false true eb ed same set = same ∙ ap (λ (z : Value). changed i (cell_edits j items) z) (sym (ap (λ (c : Bool). cond c v (cell row j)) eb))
    go false false eb ed same set = same

cells_kept : (j i : ℕ) (items : List Change) (x : Pair) → j < length x.1 → map (cell_of j) (kept items i x) ≡ keep (cell_edits j items) i (cell x.1 j)
cells_kept j i items x l = go (list_any (deletes i) items) ∙ ap (λ (b : Bool). cond b [] (cell (modified i items x.1) j ∷ [])) (cells_cut j i items) ∙ ap (λ (v : Value). cond (list_any (cuts i) (cell_edits j items)) [] (v ∷ [])) (cells_changed j i items x.1 l)
  where
    go : (b : Bool) → map (cell_of j) (cond b [] ((x.0, modified i items x.1) ∷ [])) ≡ cond b [] (cell (modified i items x.1) j ∷ [])
    go true = refl
    go false = refl

pub cells_applied : (w j i : ℕ) (items : List Change) (xs : List Pair) → j < w → AllByRecursion (λ (x : Pair). length x.1 ≡ w) xs → map (cell_of j) (applied_from items i xs) ≡ edited_from (cell_edits j items) i (map (cell_of j) xs)
cells_applied w j i items [] l h = cells_put j i items
cells_applied w j i items (x ∷ xs) l h =
    let wide = h.0 in
    map-append (cell_of j) (filter_map (inserted_at i) items ++ kept items i x) (applied_from items (i + 1) xs)
    ∙ ap (λ (a : List Value). a ++ map (cell_of j) (applied_from items (i + 1) xs)) (map-append (cell_of j) (filter_map (inserted_at i) items) (kept items i x))
    ∙ ap (λ (a : List Value). a ++ map (cell_of j) (kept items i x) ++ map (cell_of j) (applied_from items (i + 1) xs)) (cells_put j i items)
    ∙ ap (λ (a : List Value). filter_map (put_at i) (cell_edits j items) ++ a ++ map (cell_of j) (applied_from items (i + 1) xs)) (cells_kept j i items x (omega arith))
    ∙ ap (λ (a : List Value). filter_map (put_at i) (cell_edits j items) ++ keep (cell_edits j items) i (cell x.1 j) ++ a) (cells_applied w j (i + 1) items xs l h.1)

-- ---- widths

all-append : {X : Type 0} (P : X → Type 0) (xs ys : List X) → AllByRecursion P xs → AllByRecursion P ys → AllByRecursion P (xs ++ ys)
all-append P [] ys h k = k
all-append P (x ∷ xs) ys h k = (h.0, all-append P xs ys h.1 k)

put_widths : (w i : ℕ) (items : List Change) → ((c : Change) → IsIn c items → HasWidth w c) → AllByRecursion (λ (x : Pair). length x.1 ≡ w) (filter_map (inserted_at i) items)
put_widths w i [] h = tt
put_widths w i (Change.insert at key row ∷ items) h = go (at == i) (put_widths w i items (λ c m. h c (inr m))) (h (Change.insert at key row) (inl refl))
  where
    go : (b : Bool) → AllByRecursion (λ (x : Pair). length x.1 ≡ w) (filter_map (inserted_at i) items) → length row ≡ w → AllByRecursion (λ (x : Pair). length x.1 ≡ w) (cons_option (cond b (Some (key, row)) None) (filter_map (inserted_at i) items))
    go true r e = (e, r)
    go false r e = r
put_widths w i (Change.delete at ∷ items) h = put_widths w i items (λ c m. h c (inr m))
put_widths w i (Change.modify at k v ∷ items) h = put_widths w i items (λ c m. h c (inr m))

kept_widths : (w i : ℕ) (items : List Change) (x : Pair) → length x.1 ≡ w → AllByRecursion (λ (x : Pair). length x.1 ≡ w) (kept items i x)
kept_widths w i items x e = go (list_any (deletes i) items)
  where
    go : (b : Bool) → AllByRecursion (λ (x : Pair). length x.1 ≡ w) (cond b [] ((x.0, modified i items x.1) ∷ []))
    go true = tt
    go false = (length-modified i items x.1 ∙ e, tt)

pub widths_applied : (w i : ℕ) (items : List Change) (xs : List Pair) → ((c : Change) → IsIn c items → HasWidth w c) → AllByRecursion (λ (x : Pair). length x.1 ≡ w) xs → AllByRecursion (λ (x : Pair). length x.1 ≡ w) (applied_from items i xs)
widths_applied w i items [] h k = put_widths w i items h
widths_applied w i items (x ∷ xs) h k =
    all-append (λ (y : Pair). length y.1 ≡ w) (filter_map (inserted_at i) items ++ kept items i x) (applied_from items (i + 1) xs)
    (all-append (λ (y : Pair). length y.1 ≡ w) (filter_map (inserted_at i) items) (kept items i x) (put_widths w i items h) (kept_widths w i items x k.0))
    (widths_applied w (i + 1) items xs h k.1)

-- ---- all columns

pub length-edited_columns : (items : List Change) (j : ℕ) (vs : List (List Value)) → length (edited_columns items j vs) ≡ length vs
length-edited_columns items j [] = refl
length-edited_columns items j (v ∷ vs) = ap suc (length-edited_columns items (j + 1) vs)

edited_column : (items : List Change) (i j : ℕ) (vs : List (List Value)) → j < length vs → get_or (edited_columns items i vs) j [] ≡ edited_from (cell_edits (i + j) items) 0 (get_or vs j [])
edited_column items i j [] l = absurd (omega arith)
edited_column items i zero (v ∷ vs) l = ap (λ n. edited_from (cell_edits n items) 0 v) (sym (add-zero i))
edited_column items i (suc j) (v ∷ vs) l = edited_column items (i + 1) j vs (omega arith) ∙ ap (λ n. edited_from (cell_edits n items) 0 (get_or vs j [])) (omega arith)

pub edited_columns-push : (items : List Change) (i : ℕ) (vs : List (List Value)) (v : List Value) → edited_columns items i (vs ++ v ∷ []) ≡ edited_columns items i vs ++ edited_from (cell_edits (i + length vs) items) 0 v ∷ []
edited_columns-push items i [] v = ap (λ n. edited_from (cell_edits n items) 0 v ∷ []) (sym (add-zero i))
edited_columns-push items i (w ∷ vs) v = ap (λ (a : List (List Value)). edited_from (cell_edits i items) 0 w ∷ a) (edited_columns-push items (i + 1) vs v ∙ ap (λ n. edited_columns items (i + 1) vs ++ edited_from (cell_edits n items) 0 v ∷ []) here)
  where
    here : (i + 1) + length vs ≡ i + length (w ∷ vs)
    here = omega arith

pub pairs_applied : (keys : List ℕ) (columns : List (List Value)) (xs : List Pair) (items : List Change) → ((c : Change) → IsIn c items → HasWidth (length columns) c) → ArePairs keys columns xs → ArePairs (edited_from (key_edits items) 0 keys) (edited_columns items 0 columns) (applied items xs)
pairs_applied keys columns xs items h p = record {
  keys_are = keys_applied 0 items xs ∙ ap (λ (a : List ℕ). edited_from (key_edits items) 0 a) p.keys_are;
  cells_are = λ j l. cells j (omega (arith, length-edited_columns items 0 columns));
  widths = let Q : ℕ → Type 0 = λ n. AllByRecursion (λ (x : Pair). length x.1 ≡ n) (applied items xs) in subst Q (sym (length-edited_columns items 0 columns)) (widths_applied (length columns) 0 items xs h p.widths);
}
  where
    zero_j : (j : ℕ) → 0 + j ≡ j
    zero_j j = omega arith

    cells : (j : ℕ) → j < length columns → map (cell_of j) (applied items xs) ≡ get_or (edited_columns items 0 columns) j []
    cells j l =
        cells_applied (length columns) j 0 items xs l p.widths
        ∙ ap (λ (a : List Value). edited_from (cell_edits j items) 0 a) (p.cells_are j l)
        ∙ ap (λ n. edited_from (cell_edits n items) 0 (get_or columns j [])) (sym (zero_j j))
        ∙ sym (edited_column items 0 j columns l)

-- one more column is edited
pub columns_more : {A : Type 0} (f : A → List Value) (items : List Change) (xs : List A) (j : ℕ) (x : A) (done : List (List Value)) (v : List Value) → j < length xs → x ≡ get_or xs j x → done ≡ edited_columns items 0 (map f (take j xs)) → v ≡ edited_from (cell_edits j items) 0 (f x) → done ++ v ∷ [] ≡ edited_columns items 0 (map f (take (j + 1) xs))
columns_more {A} f items xs j x done v l e ed ev =
    ap (λ (a : List (List Value)). a ++ v ∷ []) ed
    ∙ ap (λ (a : List Value). edited_columns items 0 (map f (take j xs)) ++ a ∷ []) (ev ∙ ap (λ n. edited_from (cell_edits n items) 0 (f x)) here)
    ∙ sym (edited_columns-push items 0 (map f (take j xs)) (f x))
    ∙ ap (λ (a : List (List Value)). edited_columns items 0 a) (ap (λ (y : A). map f (take j xs) ++ f y ∷ []) e ∙ sym (map_more f xs j x l))
  where
    here : j ≡ 0 + length (map f (take j xs))
    here = omega (arith, length-map (take j xs) f, length-take j xs)

pub kinds_more : {A : Type 0} (f : A → Kind) (xs : List A) (j : ℕ) (x : A) (done : List Kind) (k : Kind) → j < length xs → x ≡ get_or xs j x → done ≡ map f (take j xs) → k ≡ f x → done ++ k ∷ [] ≡ map f (take (j + 1) xs)
kinds_more {A} f xs j x done k l e ed ek =
    ap (λ (a : List Kind). a ++ k ∷ []) ed ∙ ap (λ (z : Kind). map f (take j xs) ++ z ∷ []) (ek ∙ ap f e) ∙ sym (map_more f xs j x l)
