-- The number of rows after a layer, and what may be merged.
use Rattle.std.proofs.Common.{◌≡◌, ℕ, ◌+◌, ◌-◌, ◌<◌, ◌≤◌, Bool, cond, List, [], ◌∷◌, ◌++◌, length, take, drop, refl, sym, ap, subst, ◌∙◌, arith}
use Rattle.std.specs.List.{count_by}
use Rattle.std.proofs.lemmas.List.{length-append, length-take, length-drop}
use Rattle.std.proofs.lemmas.List.Sums.{sum_by-append}
use Rattle.cs_schema.specs.declared.kinds.Kind.{Kind}
use Rattle.cs_schema.specs.CatalogData.{CatalogData}
use Rattle.cs_segment.specs.SegmentData.{SegmentData, kinds_at}
use Rattle.cs_delta.specs.Image.{Change}
use Rattle.cs_delta.specs.Edits.{Edit, AreEdits, edited_from}
use Rattle.cs_delta.specs.ItemView.{key_edits}
use Rattle.cs_delta.specs.Layers.{AreLayers, IsLayerOf}
use Rattle.cs_delta.specs.DeltaFile.{DeltaData, AreLayersFrom, is_insert, is_delete, rows_after}
use Rattle.cs_delta.specs.KindedImage.{MayMerge, AreOfOneCatalog, base_keys}
use Rattle.cs_delta.proofs.EditLists.{put_step, cut_step, end_step}
use Rattle.cs_delta.proofs.FromChanges.{layer_of}
use Rattle.cs_delta.proofs.Merged.{length-base_keys}

first_counted : (test : Change → Bool) (c : Change) (l : List Change) → count_by test (c ∷ l) ≡ count_by test (c ∷ []) + count_by test l
first_counted test c l = sum_by-append (λ x. cond (test x) 1 0) (c ∷ []) l

length-taken : (keys : List ℕ) (from at : ℕ) → from ≤ at → at ≤ length keys → length (take (at - from) (drop from keys)) ≡ at - from
length-taken keys from at low high = omega (arith, length-take (at - from) (drop from keys), length-drop from keys)

length-pushed : (xs rest : List ℕ) (key : ℕ) → length ((xs ++ key ∷ []) ++ rest) ≡ length xs + 1 + length rest
length-pushed xs rest key = omega (arith, length-append (xs ++ key ∷ []) rest, length-append xs (key ∷ []))

inserted_sum : (all n from at m d i dels ins k : ℕ) → all ≡ k + 1 + m → k ≡ at - from → dels ≡ 0 + d → ins ≡ 1 + i → m + d ≡ (n - at) + i → from ≤ at → at ≤ n → all + dels ≡ (n - from) + ins
inserted_sum all n from at m d i dels ins k e1 e2 e3 e4 e5 low high = omega arith

deleted_sum : (all n from at m d i dels ins k : ℕ) → all ≡ k + m → k ≡ at - from → dels ≡ 1 + d → ins ≡ 0 + i → m + d ≡ (n - (at + 1)) + i → from ≤ at → at < n → all + dels ≡ (n - from) + ins
deleted_sum all n from at m d i dels ins k e1 e2 e3 e4 e5 low high = omega arith

changed_sum : (all d i dels ins n : ℕ) → dels ≡ 0 + d → ins ≡ 0 + i → all + d ≡ n + i → all + dels ≡ n + ins
changed_sum all d i dels ins n e1 e2 e3 = omega arith

-- the rows from `from` on, and those inserted, without those deleted
keys_left : (keys : List ℕ) (from : ℕ) (l : List Change) → from ≤ length keys → AreEdits (length keys) from (key_edits l) → length (edited_from (key_edits l) from (drop from keys)) + count_by is_delete l ≡ (length keys - from) + count_by is_insert l
keys_left keys from [] low h =
    let all : edited_from [] from (drop from keys) ≡ take (length keys - from) (drop from keys) = end_step from [] keys (edited_from [] from (drop from keys)) low refl in
    ap (λ n. n + 0) (ap length all ∙ length-taken keys from (length keys) low (omega arith))
keys_left keys from (Change.insert at key row ∷ l) low h =
    let step : edited_from (Edit.put at key ∷ key_edits l) from (drop from keys) ≡ (take (at - from) (drop from keys) ++ key ∷ []) ++ edited_from (key_edits l) at (drop at keys) = put_step from at key [] keys (edited_from (Edit.put at key ∷ key_edits l) from (drop from keys)) (key_edits l) h refl in
    inserted_sum (length (edited_from (Edit.put at key ∷ key_edits l) from (drop from keys))) (length keys) from at (length (edited_from (key_edits l) at (drop at keys))) (count_by is_delete l) (count_by is_insert l) (count_by is_delete (Change.insert at key row ∷ l)) (count_by is_insert (Change.insert at key row ∷ l)) (length (take (at - from) (drop from keys)))
    (ap length step ∙ length-pushed (take (at - from) (drop from keys)) (edited_from (key_edits l) at (drop at keys)) key) (length-taken keys from at h.0 h.1)
    (first_counted is_delete (Change.insert at key row) l) (first_counted is_insert (Change.insert at key row) l) (keys_left keys at l h.1 h.2) h.0 h.1
keys_left keys from (Change.delete at ∷ l) low h =
    let step : edited_from (Edit.cut at ∷ key_edits l) from (drop from keys) ≡ take (at - from) (drop from keys) ++ edited_from (key_edits l) (at + 1) (drop (at + 1) keys) = cut_step from at [] keys (edited_from (Edit.cut at ∷ key_edits l) from (drop from keys)) (key_edits l) 0 h refl in
    let a = h.0 in
    let b = h.1 in
    deleted_sum (length (edited_from (Edit.cut at ∷ key_edits l) from (drop from keys))) (length keys) from at (length (edited_from (key_edits l) (at + 1) (drop (at + 1) keys))) (count_by is_delete l) (count_by is_insert l) (count_by is_delete (Change.delete at ∷ l)) (count_by is_insert (Change.delete at ∷ l)) (length (take (at - from) (drop from keys)))
    (ap length step ∙ length-append (take (at - from) (drop from keys)) (edited_from (key_edits l) (at + 1) (drop (at + 1) keys))) (length-taken keys from at h.0 (omega arith))
    (first_counted is_delete (Change.delete at) l) (first_counted is_insert (Change.delete at) l) (keys_left keys (at + 1) l (omega arith) h.2) h.0 h.1
keys_left keys from (Change.modify at j v ∷ l) low h =
    changed_sum (length (edited_from (key_edits l) from (drop from keys))) (count_by is_delete l) (count_by is_insert l) (count_by is_delete (Change.modify at j v ∷ l)) (count_by is_insert (Change.modify at j v ∷ l)) (length keys - from)
    (first_counted is_delete (Change.modify at j v) l) (first_counted is_insert (Change.modify at j v) l) (keys_left keys from l low h)

pub rows_left_are : (keys : List ℕ) (l : List Change) → AreEdits (length keys) 0 (key_edits l) → length (edited_from (key_edits l) 0 keys) ≡ rows_after (length keys) l
rows_left_are keys l h = left_of (length (edited_from (key_edits l) 0 keys)) (count_by is_delete l) (length keys) (count_by is_insert l) (keys_left keys 0 l (omega arith) h)
  where
    left_of : (all dels n ins : ℕ) → all + dels ≡ (n - 0) + ins → all ≡ n + ins - dels
    left_of all dels n ins e = omega arith

layers_from : (C : CatalogData) (p : ℕ) (d : DeltaData) (n : ℕ) (keys : List ℕ) (ls : List (List Change)) → length keys ≡ n → AreLayersFrom C p d n ls → AreLayers (kinds_at C p) keys ls
layers_from C p d n keys [] e h = tt
layers_from C p d n keys (l ∷ ls) e h =
    let N : ℕ → Type 0 = λ k. IsLayerOf (kinds_at C p) k l in
    let one : IsLayerOf (kinds_at C p) (length keys) l = subst N (sym e) (layer_of C p d n l h.0) in
    (one, layers_from C p d (rows_after n l) (edited_from (key_edits l) 0 keys) ls (rows_left_are keys l one.keys ∙ ap (λ k. rows_after k l) e) h.1)

-- a base and a delta of one catalog may be merged
pub may_merge : (segment : SegmentData) (d : DeltaData) → AreOfOneCatalog segment d → MayMerge segment d
may_merge segment d h = record {
  count = h.base.count;
  lengths = h.base.lengths;
  layers = (let K : List Kind → Type 0 = λ k. AreLayers k (base_keys d.rows) d.layers in
      subst K (sym h.kinds_are) (layers_from h.catalog h.p d d.rows (base_keys d.rows) d.layers (length-base_keys d.rows) h.delta.layers));
}
