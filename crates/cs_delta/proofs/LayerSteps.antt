-- Applying one layer after others.
use Rattle.std.proofs.Common.{◌≡◌, ℕ, suc, ◌+◌, ◌<◌, ◌≤◌, List, [], ◌∷◌, ◌++◌, map, length, get_or, take, drop, refl, sym, ap, subst, ◌∙◌, arith}
use Rattle.std.specs.Prelude.{All}
use Rattle.std.proofs.lemmas.List.{length-map, take-append-drop}
use Rattle.cs_schema.specs.declared.kinds.Kind.{Kind}
use Rattle.cs_schema.specs.declared.cells.Value.{Value}
use Rattle.cs_schema.specs.Lists.{IsIn}
use Rattle.cs_schema.specs.Order.{row_limit}
use Rattle.cs_delta.specs.Image.{Change, Pair, applied, applied_from}
use Rattle.cs_delta.specs.Edits.{edited_from}
use Rattle.cs_delta.specs.ItemView.{key_edits}
use Rattle.cs_delta.specs.Layers.{ArePairs, AreLayers, IsLayerOf, HasWidth, HaveLength, IsMadeBy, key_of, edited_columns}
use Rattle.cs_delta.specs.DeltaFile.{AllFit}
use Rattle.cs_delta.specs.Image.{layered}
use Rattle.cs_delta.proofs.PairColumns.{keys_applied, pairs_applied, length-edited_columns}
use Rattle.cs_delta.proofs.EditLists.{no_edits}
use Rattle.cs_delta.proofs.MakeSteps.{drop_item}
use Rattle.cs_delta.proofs.PairsKept.{kept_pairs, lengths_of}

pub layered-push : (ls : List (List Change)) (l : List Change) (xs : List Pair) → layered (ls ++ l ∷ []) xs ≡ applied l (layered ls xs)
layered-push [] l xs = refl
layered-push (k ∷ ls) l xs = layered-push ls l (applied k xs)

fit-push : (ls : List (List Change)) (l : List Change) (xs : List Pair) → AllFit ls xs → length (applied l (layered ls xs)) ≤ row_limit → AllFit (ls ++ l ∷ []) xs
fit-push [] l xs h k = (k, tt)
fit-push (m ∷ ls) l xs h k = (h.0, fit-push ls l (applied m xs) h.1 k)

pub fit_last : (ls : List (List Change)) (l : List Change) (ms : List (List Change)) (xs : List Pair) → AllFit (ls ++ l ∷ ms) xs → length (applied l (layered ls xs)) ≤ row_limit
fit_last [] l ms xs h = h.0
fit_last (m ∷ ls) l ms xs h = fit_last ls l ms (applied m xs) h.1

pub keys_after : (keys : List ℕ) (l : List Change) (xs : List Pair) → map key_of xs ≡ keys → map key_of (applied l xs) ≡ edited_from (key_edits l) 0 keys
keys_after keys l xs e = keys_applied 0 l xs ∙ ap (λ (a : List ℕ). edited_from (key_edits l) 0 a) e

pub count_after : (keys : List ℕ) (l : List Change) (xs : List Pair) → map key_of xs ≡ keys → length (applied l xs) ≡ length (edited_from (key_edits l) 0 keys)
count_after keys l xs e = sym (length-map (applied l xs) key_of) ∙ ap length (keys_after keys l xs e)

pub made_none : (keys : List ℕ) (columns : List (List Value)) → IsMadeBy keys columns [] keys columns
made_none keys columns = record { pairs = λ xs p. p; few = λ xs e. tt; keys_are = λ xs e. e }

pub made_more : (keys ks new : List ℕ) (columns cs vs : List (List Value)) (ls : List (List Change)) (l : List Change) → IsMadeBy keys columns ls ks cs → ((c : Change) → IsIn c l → HasWidth (length cs) c) → new ≡ edited_from (key_edits l) 0 ks → vs ≡ edited_columns l 0 cs → length new ≤ 1048576 → IsMadeBy keys columns (ls ++ l ∷ []) new vs
made_more keys ks new columns cs vs ls l m wide ek ev few = record {
  pairs = λ xs p.
      let one = pairs_applied ks cs (layered ls xs) l wide (m.pairs xs p) in
      let K : List ℕ → Type 0 = λ a. ArePairs a (edited_columns l 0 cs) (applied l (layered ls xs)) in
      let V : List (List Value) → Type 0 = λ a. ArePairs new a (applied l (layered ls xs)) in
      let X : List Pair → Type 0 = λ a. ArePairs new vs a in
      subst X (sym (layered-push ls l xs)) (subst V (sym ev) (subst K (sym ek) one));
  few = λ xs e. fit-push ls l xs (m.few xs e) (let c = count_after ks l (layered ls xs) (m.keys_are xs e) in let n = ap length ek in omega arith);
  keys_are = λ xs e. ap (map key_of) (layered-push ls l xs) ∙ keys_after ks l (layered ls xs) (m.keys_are xs e) ∙ sym ek;
}

-- after a layer, each column has as many cells as there are keys
pub lengths_after : (keys new : List ℕ) (columns vs : List (List Value)) (l : List Change) → HaveLength (length keys) columns → ((c : Change) → IsIn c l → HasWidth (length columns) c) → new ≡ edited_from (key_edits l) 0 keys → vs ≡ edited_columns l 0 columns → HaveLength (length new) vs
lengths_after keys new columns vs l h wide ek ev =
    let one = lengths_of (edited_from (key_edits l) 0 keys) (edited_columns l 0 columns) _ (pairs_applied keys columns _ l wide (kept_pairs keys columns h)) in
    let K : List ℕ → Type 0 = λ a. HaveLength (length a) (edited_columns l 0 columns) in
    let V : List (List Value) → Type 0 = λ a. HaveLength (length new) a in
    subst V (sym ev) (subst K (sym ek) one)

pub layers_after : (kinds next : List Kind) (keys new : List ℕ) (l : List Change) (ls : List (List Change)) → next ≡ kinds → new ≡ edited_from (key_edits l) 0 keys → AreLayers kinds keys (l ∷ ls) → AreLayers next new ls
layers_after kinds next keys new l ls e ek h =
    let K : List ℕ → Type 0 = λ a. AreLayers kinds a ls in
    let V : List Kind → Type 0 = λ a. AreLayers a new ls in
    subst V (sym e) (subst K (sym ek) h.1)

pub split_at : {A : Type 0} (xs : List A) (i : ℕ) (x : A) → i < length xs → x ≡ get_or xs i x → xs ≡ take i xs ++ x ∷ drop (i + 1) xs
split_at {A} xs i x l e = sym (take-append-drop i xs) ∙ ap (λ (a : List A). take i xs ++ a) (drop_item xs i x l e)

pub too_many : (keys ks : List ℕ) (columns cs : List (List Value)) (all ls ms : List (List Change)) (l : List Change) (xs : List Pair) → all ≡ ls ++ l ∷ ms → IsMadeBy keys columns ls ks cs → map key_of xs ≡ keys → 1048576 < length (edited_from (key_edits l) 0 ks) → AllFit all xs → ⊥
too_many keys ks columns cs all ls ms l xs s m e many fit =
    let P : List (List Change) → Type 0 = λ a. AllFit a xs in
    let last = fit_last ls l ms xs (subst P s fit) in
    let count = count_after ks l (layered ls xs) (m.keys_are xs e) in
    omega arith

pub widths_of : (kinds : List Kind) (n : ℕ) (l : List Change) (w : ℕ) → length kinds ≡ w → IsLayerOf kinds n l → (c : Change) → IsIn c l → HasWidth w c
widths_of kinds n l w e h c m = let P : ℕ → Type 0 = λ k. HasWidth k c in subst P e (h.widths c m)

-- a layer without items leaves the keys as they are
pub same_keys : (l : List Change) (keys : List ℕ) → l ≡ [] → keys ≡ edited_from (key_edits l) 0 keys
same_keys l keys e = sym (no_edits 0 keys) ∙ ap (λ (a : List Change). edited_from (key_edits a) 0 keys) (sym e)

no_columns_edited : (j : ℕ) (vs : List (List Value)) → edited_columns [] j vs ≡ vs
no_columns_edited j [] = refl
no_columns_edited j (v ∷ vs) = ap (λ (x : List Value). x ∷ edited_columns [] (j + 1) vs) (no_edits 0 v) ∙ ap (λ (xs : List (List Value)). v ∷ xs) (no_columns_edited (j + 1) vs)

pub same_columns : (l : List Change) (columns : List (List Value)) → l ≡ [] → columns ≡ edited_columns l 0 columns
same_columns l columns e = sym (no_columns_edited 0 columns) ∙ ap (λ (a : List Change). edited_columns a 0 columns) (sym e)

-- the layers that are done give these keys and columns, and others are left to apply
pub record AreMade (keys : List ℕ) (columns : List (List Value)) (kinds : List Kind) (done left : List (List Change)) (new_keys : List ℕ) (new_columns : List (List Value)) (new_kinds : List Kind) : Type 0 where
  pub made_is : IsMadeBy keys columns done new_keys new_columns
  pub layers_left : AreLayers new_kinds new_keys left
  pub lengths : HaveLength (length new_keys) new_columns
  pub kinds_are : new_kinds ≡ kinds
  pub width : length new_kinds ≡ length new_columns

pub made_first : (keys : List ℕ) (columns : List (List Value)) (kinds : List Kind) (left : List (List Change)) → AreLayers kinds keys left → HaveLength (length keys) columns → length kinds ≡ length columns → AreMade keys columns kinds [] left keys columns kinds
made_first keys columns kinds left h lengths width = record { made_is = made_none keys columns; layers_left = h; lengths = lengths; kinds_are = refl; width = width }

pub made_next : (keys ks new : List ℕ) (columns cs vs : List (List Value)) (kinds before next : List Kind) (done : List (List Change)) (l : List Change) (left : List (List Change)) → AreMade keys columns kinds done (l ∷ left) ks cs before → new ≡ edited_from (key_edits l) 0 ks → vs ≡ edited_columns l 0 cs → next ≡ before → length new ≤ 1048576 → AreMade keys columns kinds (done ++ l ∷ []) left new vs next
made_next keys ks new columns cs vs kinds before next done l left m ek ev eb few =
    let wide = widths_of before (length ks) l (length cs) m.width m.layers_left.0 in
    record {
      made_is = made_more keys ks new columns cs vs done l m.made_is wide ek ev few;
      layers_left = layers_after before next ks new l left eb ek m.layers_left;
      lengths = lengths_after ks new cs vs l m.lengths wide ek ev;
      kinds_are = eb ∙ m.kinds_are;
      width = ap length eb ∙ m.width ∙ sym (ap length ev ∙ length-edited_columns l 0 cs);
    }

-- a layer without items leaves the pairs as they are
nothing_applied : (i : ℕ) (xs : List Pair) → applied_from [] i xs ≡ xs
nothing_applied i [] = refl
nothing_applied i (x ∷ xs) = ap (λ (ys : List Pair). x ∷ ys) (nothing_applied (i + 1) xs)

abbrev AreEmpty : List (List Change) → Type 0
AreEmpty [] = Unit {0}
AreEmpty (l ∷ ls) = (l ≡ []) × AreEmpty ls

are_empty : (ls : List (List Change)) → All (λ l. l ≡ []) ls → AreEmpty ls
are_empty [] h = tt
are_empty (l ∷ ls) h = (h 0 [] (omega arith), are_empty ls (λ k d lt. h (suc k) d (omega arith)))

nothing_layered : (ls : List (List Change)) (xs : List Pair) → AreEmpty ls → layered ls xs ≡ xs
nothing_layered [] xs h = refl
nothing_layered (l ∷ ls) xs h = ap (λ (m : List Change). layered ls (applied m xs)) h.0 ∙ ap (layered ls) (nothing_applied 0 xs) ∙ nothing_layered ls xs h.1

nothing_fits : (ls : List (List Change)) (xs : List Pair) → AreEmpty ls → length xs ≤ 1048576 → AllFit ls xs
nothing_fits [] xs h few = tt
nothing_fits (l ∷ ls) xs h few =
    let same : applied l xs ≡ xs = ap (λ (m : List Change). applied m xs) h.0 ∙ nothing_applied 0 xs in
    rw same (few, nothing_fits ls xs h.1 few)

-- layers without items leave keys and columns as they are
pub made_of_nothing : (keys : List ℕ) (columns : List (List Value)) (ls : List (List Change)) → length keys ≤ 1048576 → All (λ l. l ≡ []) ls → IsMadeBy keys columns ls keys columns
made_of_nothing keys columns ls few h =
    let none = are_empty ls h in
    record {
      pairs = λ xs p. subst (ArePairs keys columns) (sym (nothing_layered ls xs none)) p;
      few = λ xs e. nothing_fits ls xs none (let n = ap length e in let m = length-map xs key_of in omega arith);
      keys_are = λ xs e. ap (map key_of) (nothing_layered ls xs none) ∙ e;
    }
