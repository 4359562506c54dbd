-- The values that have a bitmap, and the bytes of their bitmaps.
use Rattle.std.proofs.Common.{◌≡◌, ℕ, suc, Bool, true, false, cond, List, [], ◌∷◌, ◌++◌, length, map, Option, Some, None, refl, sym, ap, ◌∙◌, inl, inr, ◌⊎◌}
use Rattle.std.specs.Prelude.{flat_map}
use Rattle.std.specs.List.{AllByRecursion}
use Rattle.std.specs.List.Sorted.{IsStrictlySortedBy}
use Rattle.std.specs.Cmp.{IsTotalOrder}
use Rattle.std.specs.Ordering.{is_eq, ordering_reverse}
use Rattle.std.specs.declared.cmp.Ordering.{Ordering}
use Rattle.std.specs.declared.cmp.Ordering.TheVariants.{Less, Equal, Greater}
use Rattle.std.specs.Map.{keys_of, lookup}
use Rattle.std.specs.BTreeMap.{BTreeMap, get, is_at, keys}
use Rattle.std.proofs.lemmas.Cmp.{tied_itself}
use Rattle.std.proofs.lemmas.Map.Keys.{sorted_head, sorted_tail}
use Rattle.cs_codec.specs.Cells.{number}
use Rattle.cs_codec.specs.Cells.{IsTest}
use Rattle.cs_codec.specs.Texts.{distinct_values, run_lengths, bitmap_text, bitmaps_text, bitmap_lengths}
use Rattle.cs_codec.specs.Bitmaps.{entry_text, if_some}
use Rattle.cs_codec.specs.BitmapParts.{AreBitmaps}
use Rattle.cs_codec.proofs.BitmapKeys.{In, same_sorted, sorted_distinct, from_distinct, to_distinct}

-- ---- a value occurs in the list exactly if its bitmap has a one

pub not_there : {C : Type 0} (eq : C → C → Bool) (t : IsTest eq) (q : C) (n : ℕ) (xs : List C) → run_lengths false n (map (eq q) xs) ≡ [] → In q xs → ⊥
not_there eq t q n [] e m = m
not_there {C} eq t q n (x ∷ xs) e m = by_value (eq q x) refl e m (not_there eq t q (suc n) xs)
  where
    by_value : (b : Bool) → eq q x ≡ b → run_lengths false n (b ∷ map (eq q) xs) ≡ [] → (q ≡ x) ⊎ In q xs → (run_lengths false (suc n) (map (eq q) xs) ≡ [] → In q xs → ⊥) → ⊥
    by_value true k f o deeper = absurd cc
    by_value false k f (inl same) deeper =
        let itself : eq q x ≡ true = ap (eq q) (sym same) ∙ t.itself q in
        absurd cc
    by_value false k f (inr o) deeper = deeper f o

pub there : {C : Type 0} (eq : C → C → Bool) (t : IsTest eq) (q : C) (n : ℕ) (xs : List C) → (run_lengths false n (map (eq q) xs) ≡ [] → ⊥) → In q xs
there eq t q n [] h = absurd (h refl)
there {C} eq t q n (x ∷ xs) h = by_value (eq q x) refl h (there eq t q (suc n) xs)
  where
    by_value : (b : Bool) → eq q x ≡ b → (run_lengths false n (b ∷ map (eq q) xs) ≡ [] → ⊥) → ((run_lengths false (suc n) (map (eq q) xs) ≡ [] → ⊥) → In q xs) → (q ≡ x) ⊎ In q xs
    by_value true k f deeper = inl (t.exact q x k)
    by_value false k f deeper = inr (deeper f)

-- ---- the entries of a map

test_of : {C : Type 0} (cmp : C → C → Ordering) (q x : C) (o : Ordering) → cmp q x ≡ o → is_eq o ≡ true → cmp q x ≡ Equal
test_of cmp q x Less e h = absurd cc
test_of cmp q x Equal e h = e
test_of cmp q x Greater e h = absurd cc

key_found : {C X : Type 0} (cmp : C → C → Ordering) (o : IsTotalOrder cmp) (q : C) (es : List (C × X)) → In q (keys_of es) → lookup (is_at (cmp q)) es ≡ None → ⊥
key_found cmp o q [] h n = absurd h
key_found {C} {X} cmp o q (e ∷ es) h n = by_value (is_eq (cmp q e.0)) refl h n (key_found cmp o q es)
  where
    by_value : (b : Bool) → is_eq (cmp q e.0) ≡ b → In q (e.0 ∷ keys_of es) → cond b (Some e.1) (lookup (is_at (cmp q)) es) ≡ None → (In q (keys_of es) → lookup (is_at (cmp q)) es ≡ None → ⊥) → ⊥
    by_value true k m f deeper = absurd cc
    by_value false k (inl same) f deeper =
        let itself : is_eq (cmp q e.0) ≡ true = ap (λ (z : C). is_eq (cmp q z)) (sym same) ∙ ap is_eq (tied_itself o q) in
        absurd cc
    by_value false k (inr m) f deeper = deeper m f

found_key : {C X : Type 0} (cmp : C → C → Ordering) (tie : (x y : C) → cmp x y ≡ Equal → x ≡ y) (q : C) (b : X) (es : List (C × X)) → lookup (is_at (cmp q)) es ≡ Some b → In q (keys_of es)
found_key cmp tie q b [] h = absurd cc
found_key {C} {X} cmp tie q b (e ∷ es) h = by_value (is_eq (cmp q e.0)) refl h (found_key cmp tie q b es)
  where
    by_value : (c : Bool) → is_eq (cmp q e.0) ≡ c → cond c (Some e.1) (lookup (is_at (cmp q)) es) ≡ Some b → (lookup (is_at (cmp q)) es ≡ Some b → In q (keys_of es)) → In q (e.0 ∷ keys_of es)
    by_value true k f deeper = inl (tie q e.0 (test_of cmp q e.0 (cmp q e.0) refl k))
    by_value false k f deeper = inr (deeper f)

-- each entry is found under its key
Found : {C X : Type 0} (cmp : C → C → Ordering) → List (C × X) → List (C × X) → Type 0
Found cmp all es = AllByRecursion (λ e. lookup (is_at (cmp e.0)) all ≡ Some e.1) es

found_still : {C X : Type 0} (cmp : C → C → Ordering) (o : IsTotalOrder cmp) (first : C × X) (all es : List (C × X)) → AllByRecursion (λ k. cmp first.0 k ≡ Less) (keys_of es) → Found cmp all es → Found cmp (first ∷ all) es
unfolding Found
found_still cmp o first all [] above h = tt
found_still cmp o first all (e ∷ es) above h =
    let other : cmp e.0 first.0 ≡ Greater = o.antisymm e.0 first.0 ∙ ap ordering_reverse above.0 in
    let apart : is_eq (cmp e.0 first.0) ≡ false = ap is_eq other in
    (rw apart h.0, found_still cmp o first all es above.1 h.1)

all_found : {C X : Type 0} (cmp : C → C → Ordering) (o : IsTotalOrder cmp) (es : List (C × X)) → IsStrictlySortedBy cmp (keys_of es) → Found cmp es es
unfolding Found
all_found cmp o [] s = tt
all_found cmp o (e ∷ es) s =
    let itself : is_eq (cmp e.0 e.0) ≡ true = ap is_eq (tied_itself o e.0) in
    (rw itself refl, found_still cmp o e es es (sorted_head cmp e.0 (keys_of es) s) (all_found cmp o es (sorted_tail cmp e.0 (keys_of es) s)))

-- ---- the bytes of bitmaps

by_option : {P X : Type 0} (o : Option X) → (o ≡ None → P) → ((b : X) → o ≡ Some b → P) → P
by_option None f g = f refl
by_option (Some b) f g = g b refl

none_is_empty : (ls : List ℕ) → if_some ls ≡ None → ls ≡ []
none_is_empty [] e = refl
none_is_empty (x ∷ xs) e = absurd cc

some_is_list : (ls b : List ℕ) → if_some ls ≡ Some b → (ls ≡ b) × (ls ≡ [] → ⊥)
some_is_list [] b e = absurd cc
some_is_list (x ∷ xs) b e = (cc, λ f. absurd cc)

pub keys_are : {C : Type 0} (eq : C → C → Bool) (t : IsTest eq) (cmp : C → C → Ordering) (o : IsTotalOrder cmp) (ties : (x y : C) → eq x y ≡ is_eq (cmp x y)) (bitmaps : BTreeMap C (List ℕ)) (cells : List C) → AreBitmaps eq cmp bitmaps cells → keys bitmaps ≡ distinct_values cmp cells
keys_are {C} eq t cmp o ties bitmaps cells h =
    let tie : (x y : C) → cmp x y ≡ Equal → x ≡ y = λ x y e. t.exact x y (ties x y ∙ ap is_eq e) in
    same_sorted cmp o (keys bitmaps) (distinct_values cmp cells) h.ordered (sorted_distinct cmp o cells)
    (λ q k. by_option (get cmp bitmaps q) (λ n. absurd (key_found cmp o q bitmaps.entries k n)) (λ b e. to_distinct cmp tie q cells (there eq t q 0 cells (some_is_list (bitmap_lengths eq q cells) b (sym (h.each q) ∙ e)).1)))
    (λ q k. by_option (get cmp bitmaps q) (λ n. absurd (not_there eq t q 0 cells (none_is_empty (bitmap_lengths eq q cells) (sym (h.each q) ∙ n)) (from_distinct cmp q cells k))) (λ b e. found_key cmp tie q b bitmaps.entries e))

entries_text : {C : Type 0} (bytes : C → List ℕ) (eq : C → C → Bool) (cmp : C → C → Ordering) (bitmaps : BTreeMap C (List ℕ)) (cells : List C) → AreBitmaps eq cmp bitmaps cells → (es : List (C × List ℕ)) → Found cmp bitmaps.entries es → flat_map (entry_text bytes) es ≡ flat_map (bitmap_text bytes eq cells) (keys_of es)
unfolding Found
entries_text bytes eq cmp bitmaps cells h [] f = refl
entries_text bytes eq cmp bitmaps cells h (e ∷ es) f =
    let lengths : bitmap_lengths eq e.0 cells ≡ e.1 = (some_is_list (bitmap_lengths eq e.0 cells) e.1 (sym (h.each e.0) ∙ f.0)).0 in
    ap (λ (ls : List ℕ). (bytes e.0 ++ number (length ls) ++ flat_map number ls) ++ flat_map (entry_text bytes) es) (sym lengths)
    ∙ ap (λ (w : List ℕ). bitmap_text bytes eq cells e.0 ++ w) (entries_text bytes eq cmp bitmaps cells h es f.1)

pub entries_are_text : {C : Type 0} (bytes : C → List ℕ) (eq : C → C → Bool) (t : IsTest eq) (cmp : C → C → Ordering) (o : IsTotalOrder cmp) (ties : (x y : C) → eq x y ≡ is_eq (cmp x y)) (bitmaps : BTreeMap C (List ℕ)) (cells : List C) → AreBitmaps eq cmp bitmaps cells → flat_map (entry_text bytes) bitmaps.entries ≡ bitmaps_text bytes eq cmp cells
entries_are_text {C} bytes eq t cmp o ties bitmaps cells h =
    entries_text bytes eq cmp bitmaps cells h bitmaps.entries (all_found cmp o bitmaps.entries h.ordered)
    ∙ ap (λ (ks : List C). flat_map (bitmap_text bytes eq cells) ks) (keys_are eq t cmp o ties bitmaps cells h)
