-- How what is read of a list of values grows by one.
use Rattle.std.proofs.Common.{◌≡◌, ℕ, ◌+◌, ◌<◌, List, [], ◌∷◌, ◌++◌, length, get_or, take, map, Option, Some, None, option_map, refl, sym, ap, ◌∙◌}
use Rattle.std.proofs.lemmas.Option.{none-some, same_Some}
use Rattle.std.proofs.lemmas.List.{take_more, map-append}
use Rattle.std.specs.Prelude.{option_and_then}
use Rattle.toml.specs.View.{view, items_view}
use Rattle.toml.specs.declared.value.Value.{Value}
use Rattle.cs_schema.specs.Document.{read_all}
use Rattle.cs_sites.specs.Reading.{item_list}

-- the items of an array as a list
pub item_list-view : (vs : List Value) → item_list (items_view vs) ≡ map view vs
item_list-view [] = refl
item_list-view (v ∷ vs) = ap (λ ds. view v ∷ ds) (item_list-view vs)

grown : {B : Type 0} (o : Option B) (r s : Option (List B)) (y : B) (ys : List B) → ((zs : List B) → r ≡ Some zs → s ≡ Some (zs ++ y ∷ []))
    → option_and_then (λ w. option_map (λ ws. w ∷ ws) r) o ≡ Some ys
    → option_and_then (λ w. option_map (λ ws. w ∷ ws) s) o ≡ Some (ys ++ y ∷ [])
grown None r s y ys more h = absurd (none-some ys h)
grown (Some w) None s y ys more h = absurd (none-some ys h)
grown (Some w) (Some ws) s y ys more h = rw (more ws refl) (ap (λ l. Some (l ++ y ∷ [])) (same_Some _ _ h))

module _ {V A B : Type 0} (see : V → A) (read : A → Option B) where
  read_last : (xs : List A) (x : A) (ys : List B) (y : B) → read_all read xs ≡ Some ys → read x ≡ Some y → read_all read (xs ++ x ∷ []) ≡ Some (ys ++ y ∷ [])
  read_last [] x ys y all one = rw one (ap (λ l. Some (l ++ y ∷ [])) (same_Some _ _ all))
  read_last (z ∷ xs) x ys y all one = grown (read z) (read_all read xs) (read_all read (xs ++ x ∷ [])) y ys (λ zs h. read_last xs x zs y h one) all

  -- one value more
  pub read_more : (vs : List V) (i : ℕ) (v : V) (ys : List B) (y : B) → i < length vs → v ≡ get_or vs i v → read (see v) ≡ Some y
      → read_all read (map see (take i vs)) ≡ Some ys → read_all read (map see (take (i + 1) vs)) ≡ Some (ys ++ y ∷ [])
  read_more vs i v ys y h is one all =
      let more : take (i + 1) vs ≡ take i vs ++ v ∷ [] = take_more vs i v h ∙ ap (λ x. take i vs ++ x ∷ []) (sym is) in
      rw (more, map-append see) (read_last (map see (take i vs)) (see v) ys y all one)
