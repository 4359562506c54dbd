-- A loop that looks at the items of a list until one does not pass.
use Rattle.std.proofs.Common.{◌≡◌, ℕ, ◌+◌, ◌<◌, Bool, true, ◌&&◌, List, length, get_or, drop, ap, sym, ◌∙◌, inl, inr}
use Rattle.std.proofs.lemmas.Bool.{cases_Bool, false≢true}
use Rattle.std.proofs.lemmas.List.{drop_more}
use Rattle.std.proofs.lemmas.List.Folds.{list_all_at}
use Rattle.std.specs.List.{list_all}

pub all_next : {X : Type 0} (p : X → Bool) (xs : List X) (i : ℕ) (x : X) (b : Bool) → i < length xs → x ≡ get_or xs i x → true ≡ p x → b ≡ list_all p (drop i xs)
    → b ≡ list_all p (drop (i + 1) xs)
all_next p xs i x b h is passes so_far =
    let rest = list_all p (drop (i + 1) xs) in
    so_far ∙ ap (list_all p) (drop_more xs i x h) ∙ ap (λ y. p y && rest) (sym is) ∙ ap (λ passed. passed && rest) (sym passes)

-- an item of a list that passes whole
pub all_at : {X : Type 0} (p : X → Bool) (xs : List X) (i : ℕ) (x : X) → i < length xs → x ≡ get_or xs i x → list_all p xs ≡ true → p x ≡ true
all_at p xs i x h is all =
    elim (cases_Bool (p x)) [
      | inl passes ↦ passes
      | inr fails ↦ absurd (false≢true (sym (list_all_at p xs i x h (ap p (sym is) ∙ fails)) ∙ all))
    ]
