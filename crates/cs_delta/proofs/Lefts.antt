-- What is left of a list while its elements are removed from the front.
use Rattle.std.proofs.Common.{◌≡◌, ℕ, zero, suc, ◌+◌, List, [], ◌∷◌, get_or, drop, refl, ap, ◌∙◌, arith}
use Rattle.std.specs.List.{remove}
use Rattle.std.proofs.lemmas.List.{get_or-drop}

-- the first element of what is left is removed
first_off : {X : Type 0} (j : ℕ) (xs : List X) → remove (drop j xs) 0 ≡ drop (suc j) xs
first_off zero [] = refl
first_off zero (x ∷ xs) = refl
first_off (suc j) [] = refl
first_off (suc j) (x ∷ xs) = first_off j xs

pub one_less : {X : Type 0} (j : ℕ) (left xs : List X) → left ≡ drop j xs → remove left 0 ≡ drop (j + 1) xs
one_less j left xs e = ap (λ l. remove l 0) e ∙ first_off j xs ∙ ap (λ n. drop n xs) (let z : suc j ≡ j + 1 = omega arith in z)

-- the first element of what is left is the j-th of the list
pub one_there : {X : Type 0} (xs left : List X) (j : ℕ) (x : X) → left ≡ drop j xs → x ≡ get_or left 0 x → x ≡ get_or xs j x
one_there xs left j x e h =
    let same : j + 0 ≡ j = omega arith in
    h ∙ ap (λ l. get_or l 0 x) e ∙ get_or-drop j xs 0 x ∙ ap (λ n. get_or xs n x) same
