-- How what is read of a list grows by one element.
use Rattle.std.proofs.Common.{◌≡◌, ℕ, zero, suc, ◌+◌, ◌<◌, List, [], ◌∷◌, ◌++◌, length, get_or, take, map, Option, Some, None, option_map, refl, sym, ap, ◌∙◌, arith}
use Rattle.std.proofs.lemmas.Option.{none-some, same_Some}
use Rattle.std.proofs.lemmas.List.{take_more, map-append, get_or-map}
use Rattle.std.proofs.Math.ListN.{length-map}
use Rattle.std.specs.Prelude.{option_and_then}
use Rattle.toml.specs.View.{view, items_view}
use Rattle.toml.specs.declared.value.Value.{Value}
use Rattle.cs_schema.specs.Document.{read_all}
use Rattle.cs_catalog.specs.Tree.{item_list}

-- the items of an array as a list
pub item_list-view : (vs : List Value) → item_list (items_view vs) ≡ map view vs
item_list-view [] = refl
item_list-view (v ∷ vs) = ap (λ ds. view v ∷ ds) (item_list-view vs)

module _ {B : Type 0} where
  grown : (o : Option B) (r s : Option (List B)) (y : B) (ys : List B) → ((zs : List B) → r ≡ Some zs → s ≡ Some (zs ++ y ∷ []))
      → option_and_then (λ w. option_map (λ ws. w ∷ ws) r) o ≡ Some ys
      → option_and_then (λ w. option_map (λ ws. w ∷ ws) s) o ≡ Some (ys ++ y ∷ [])
  grown None r s y ys more h = absurd (none-some ys h)
  grown (Some w) None s y ys more h = absurd (none-some ys h)
  grown (Some w) (Some ws) s y ys more h = rw (more ws refl) (ap (λ l. Some (l ++ y ∷ [])) (same_Some _ _ h))

  unread_after : (o : Option B) (r : Option (List B)) → r ≡ None → option_and_then (λ w. option_map (λ ws. w ∷ ws) r) o ≡ None
  unread_after None r h = refl
  unread_after (Some w) r h = rw h

module _ {A B : Type 0} (read : A → Option B) where
  -- one element more
  pub read_all-last : (xs : List A) (x : A) (ys : List B) (y : B) → read_all read xs ≡ Some ys → read x ≡ Some y → read_all read (xs ++ x ∷ []) ≡ Some (ys ++ y ∷ [])
  read_all-last [] x ys y all one = rw one (ap (λ l. Some (l ++ y ∷ [])) (same_Some _ _ all))
  read_all-last (z ∷ xs) x ys y all one = grown (read z) (read_all read xs) (read_all read (xs ++ x ∷ [])) y ys (λ zs h. read_all-last xs x zs y h one) all

  -- an element that is not read
  pub read_all-unread : (xs : List A) (k : ℕ) (d : A) → k < length xs → read (get_or xs k d) ≡ None → read_all read xs ≡ None
  read_all-unread [] k d h e = absurd (omega arith)
  read_all-unread (x ∷ xs) zero d h e = rw e
  read_all-unread (x ∷ xs) (suc k) d h e = unread_after (read x) (read_all read xs) (read_all-unread xs k d (omega arith) e)

-- a loop's step over values that are seen as data
module _ {V A B : Type 0} (see : V → A) (read : A → Option B) where
  pub read_more : (vs : List V) (i : ℕ) (v : V) (ys : List B) (y : B) → i < length vs → v ≡ get_or vs i v → read (see v) ≡ Some y
      → read_all read (map see (take i vs)) ≡ Some ys → read_all read (map see (take (i + 1) vs)) ≡ Some (ys ++ y ∷ [])
  read_more vs i v ys y h is one all =
      let at_end = read_all-last read (map see (take i vs)) (see v) ys y all one in
      let more : take (i + 1) vs ≡ take i vs ++ v ∷ [] = take_more vs i v h ∙ ap (λ x. take i vs ++ x ∷ []) (sym is) in
      rw (more, map-append see) at_end

  pub read_stops : (vs : List V) (i : ℕ) (v : V) → i < length vs → v ≡ get_or vs i v → read (see v) ≡ None → read_all read (map see vs) ≡ None
  read_stops vs i v h is none =
      let here : get_or (map see vs) i (see v) ≡ see v = get_or-map see vs i v (see v) h ∙ ap see (sym is) in
      read_all-unread read (map see vs) i (see v) (rw length-map h) (ap read here ∙ none)

-- ---- cuts

pub read_all-map : {A B C : Type 0} (read : B → Option C) (f : A → B) (xs : List A) → read_all read (map f xs) ≡ read_all (λ x. read (f x)) xs
read_all-map read f [] = refl
read_all-map read f (x ∷ xs) = rw (read_all-map read f xs)

-- a loop's step over items that are read as cells
module _ {V A B C : Type 0} (see : V → A) (turn : A → C) (read : C → Option B) where
  pub cells_more : {N : Type 0} (wrap : N → B) (vs : List V) (i : ℕ) (v : V) (ns : List N) (n : N) → i < length vs → v ≡ get_or vs i v → Some (wrap n) ≡ read (turn (see v))
      → read_all read (map turn (map see (take i vs))) ≡ Some (map wrap ns) → read_all read (map turn (map see (take (i + 1) vs))) ≡ Some (map wrap (ns ++ n ∷ []))
  cells_more wrap vs i v ns n h is one all =
      let before = sym (read_all-map read turn (map see (take i vs))) ∙ all in
      let more = read_more see (λ d. read (turn d)) vs i v (map wrap ns) (wrap n) h is (sym one) before in
      read_all-map read turn (map see (take (i + 1) vs)) ∙ more ∙ ap Some (sym (map-append wrap ns (n ∷ [])))

  pub cells_stop : (vs : List V) (i : ℕ) (v : V) → i < length vs → v ≡ get_or vs i v → None ≡ read (turn (see v)) → read_all read (map turn (map see vs)) ≡ None
  cells_stop vs i v h is none = read_all-map read turn (map see vs) ∙ read_stops see (λ d. read (turn d)) vs i v h is (sym none)
