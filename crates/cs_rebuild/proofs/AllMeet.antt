-- Lists whose elements all meet a predicate.
use Rattle.std.proofs.Common.{◌≡◌, ℕ, zero, suc, ◌+◌, ◌<◌, ◌≤◌, List, [], ◌∷◌, length, map, get_or, sym, ◌∙◌, subst, arith, ⊎_elim}
use Rattle.std.specs.Prelude.{All}
use Rattle.std.proofs.lemmas.Bool.{cases_lt}
use Rattle.std.proofs.lemmas.Option.{slice_get-get_or, get_or_from_slice_get}

-- one more element of a list satisfies P
pub one_more_meets : {X : Type 0} (P : X → Type 0) (xs : List X) (i : ℕ) (x : X) → i < length xs → x ≡ get_or xs i x → P x → ((k : ℕ) (d : X) → k < i → P (get_or xs k d)) → (k : ℕ) (d : X) → k < i + 1 → P (get_or xs k d)
one_more_meets P xs i x h is p before k d l =
    ⊎_elim
    (λ (low : k < i). before k d low)
    (λ (high : i ≤ k).
    let e : i ≡ k = omega arith in
    let at : get_or xs i d ≡ x = get_or_from_slice_get xs i (get_or xs i x) d (slice_get-get_or xs i x h) ∙ sym is in
    subst (λ n. P (get_or xs n d)) e (subst P (sym at) p))
    (cases_lt k i)

-- if all elements satisfy a predicate, so do their images
pub mapped_meet : {X Y : Type 0} (f : X → Y) (P : X → Type 0) (Q : Y → Type 0) → ((x : X) → P x → Q (f x)) → (xs : List X) → All P xs → All Q (map f xs)
mapped_meet f P Q g [] h k d l = absurd (omega (arith, l))
mapped_meet f P Q g (x ∷ xs) h zero d l = g x (h 0 x (omega arith))
mapped_meet f P Q g (x ∷ xs) h (suc k) d l = mapped_meet f P Q g xs (λ m e b. h (suc m) e (omega (arith, b))) k d (omega (arith, l))
