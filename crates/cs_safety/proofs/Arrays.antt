-- Arrays of numbers that are filled from the front, and members of lists.
use Rattle.std.proofs.Common.{◌≡◌, ℕ, ◌+◌, ◌<◌, ◌≢◌, ◌==◌, List, [], ◌∷◌, ◌++◌, length, slice_index, slice_set, refl, subst, sym, eq-eqb, arith, below_more, get_or-set_other, get_or-set_same, true}
use Rattle.std.proofs.lemmas.List.Folds.{list_any_at}
use Rattle.std.proofs.lemmas.List.{get_or_append_left, get_or_push}
use Rattle.cs_schema.specs.Lists.{member}

pub set_below : (P : ℕ → ℕ → Type 0) (xs : List ℕ) (i v : ℕ) → i < length xs → ((k : ℕ) → k < i → P k (slice_index xs k)) → P i v → (k : ℕ) → k < i + 1 → P k (slice_index (slice_set xs i v) k)
set_below P xs i v h below here =
    below_more (λ k. P k (slice_index (slice_set xs i v) k)) i
    (λ k l. let ne : k ≢ i = omega arith in rw get_or-set_other (below k l))
    (rw get_or-set_same here)

pub at_member : (xs : List ℕ) (i : ℕ) → i < length xs → member xs (slice_index xs i) ≡ true
at_member xs i h = list_any_at (λ y. y == slice_index xs i) xs i 0 h (eq-eqb (slice_index xs i) (slice_index xs i) refl)

pub push_below : (P : ℕ → ℕ → Type 0) (xs ys : List ℕ) (n y : ℕ) → ys ≡ xs ++ y ∷ [] → length xs ≡ n → ((k : ℕ) → k < n → P k (slice_index xs k)) → P n y → (k : ℕ) → k < n + 1 → P k (slice_index ys k)
push_below P xs ys n y e size below here =
    subst (λ zs. (k : ℕ) → k < n + 1 → P k (slice_index zs k)) (sym e)
    (below_more (λ k. P k (slice_index (xs ++ y ∷ []) k)) n
    (λ k l. let h : k < length xs = omega (arith, size) in subst (P k) (sym (get_or_append_left xs (y ∷ []) 0 k h)) (below k l))
    (subst (P n) (sym (get_or_push xs y 0 n size)) here))
