-- A loop that makes a list, item by item, from the items of another.
use Rattle.std.proofs.Common.{◌≡◌, ℕ, ◌+◌, ◌<◌, List, [], ◌∷◌, ◌++◌, length, get_or, take, map, ap, sym, ◌∙◌}
use Rattle.std.proofs.lemmas.List.{take_more, map-append}

pub mapped_more : {A B : Type 0} (f : A → B) (xs : List A) (i : ℕ) (d : A) (ys : List B) → i < length xs → ys ≡ map f (take i xs)
    → ys ++ f (get_or xs i d) ∷ [] ≡ map f (take (i + 1) xs)
mapped_more f xs i d ys h made =
    ap (λ l. l ++ f (get_or xs i d) ∷ []) made ∙ sym (map-append f (take i xs) (get_or xs i d ∷ [])) ∙ ap (map f) (sym (take_more xs i d h))

-- the same, where the item is known by a name
pub mapped_item : {A B : Type 0} (f : A → B) (xs : List A) (i : ℕ) (x : A) (ys : List B) → i < length xs → x ≡ get_or xs i x → ys ≡ map f (take i xs)
    → ys ++ f x ∷ [] ≡ map f (take (i + 1) xs)
mapped_item f xs i x ys h is made = ap (λ y. ys ++ f y ∷ []) is ∙ mapped_more f xs i x ys h made
