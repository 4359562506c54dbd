-- The first element that passes a test, from the tasks of a round.
use Rattle.std.proofs.Common.{◌≡◌, ℕ, zero, suc, ◌<◌, List, [], ◌∷◌, length, refl, sym, ap, ◌∙◌, Bool, true, false, not, Option, Some, None, arith, cond, get_or}
use Rattle.std.specs.List.{find, slice_get}
use Rattle.std.specs.Option.{option_map, option_and_then}
use Rattle.std.proofs.lemmas.Option.{none-some, slice_get-get_or}
use Rattle.cs_recovery.specs.Tables.{when}

module _ {X F : Type 0} (p : X → Bool) (f : X → F) where
  at_piece : X → Option F
  at_piece x = when (p x) (f x)

  pub none_passes : (xs : List X) → ((i : ℕ) → i < length xs → None ≡ option_and_then (λ x. when (p x) (f x)) (slice_get xs i)) → option_map f (find p xs) ≡ None
  none_passes [] h = refl
  none_passes (x ∷ xs) h = go (p x) refl (h 0 (omega arith)) (none_passes xs (λ i l. h (suc i) (omega arith)))
    where
      go : (b : Bool) → p x ≡ b → None ≡ when (p x) (f x) → option_map f (find p xs) ≡ None → option_map f (cond (p x) (Some x) (find p xs)) ≡ None
      go true e n r = absurd (none-some (f x) (n ∙ ap (λ b. when b (f x)) e))
      go false e n r = ap (λ b. option_map f (cond b (Some x) (find p xs))) e ∙ r

  pub first_passes : (xs : List X) (i : ℕ) (y : F) → Some y ≡ option_and_then (λ x. when (p x) (f x)) (slice_get xs i) → ((k : ℕ) → k < i → None ≡ option_and_then (λ x. when (p x) (f x)) (slice_get xs k)) → option_map f (find p xs) ≡ Some y
  first_passes [] i y e h = absurd (none-some y (sym e))
  first_passes (x ∷ xs) zero y e h = go (p x) refl
    where
      go : (b : Bool) → p x ≡ b → option_map f (cond (p x) (Some x) (find p xs)) ≡ Some y
      go true k = ap (λ b. option_map f (cond b (Some x) (find p xs))) k ∙ sym (e ∙ ap (λ b. when b (f x)) k)
      go false k = absurd (none-some y (sym (e ∙ ap (λ b. when b (f x)) k)))
  first_passes (x ∷ xs) (suc i) y e h = go (p x) refl (h 0 (omega arith)) (first_passes xs i y e (λ k l. h (suc k) (omega arith)))
    where
      go : (b : Bool) → p x ≡ b → None ≡ when (p x) (f x) → option_map f (find p xs) ≡ Some y → option_map f (cond (p x) (Some x) (find p xs)) ≡ Some y
      go true k n r = absurd (none-some (f x) (n ∙ ap (λ b. when b (f x)) k))
      go false k n r = ap (λ b. option_map f (cond b (Some x) (find p xs))) k ∙ r

  turned : (b t u : Bool) → b ≡ u → b ≡ not t → t ≡ not u
  turned true true u e h = absurd (Rattle.cs_schema.proofs.Ascending.false≢true (sym h))
  turned true false u e h = ap not e
  turned false true u e h = ap not e
  turned false false u e h = absurd (Rattle.cs_schema.proofs.Ascending.false≢true h)

  -- what is stated of a task, from the test that it makes
  pub piece_sound : (xs : List X) (i : ℕ) (d : X) (b : Bool) → i < length xs → b ≡ true → b ≡ not (p (get_or xs i d)) → None ≡ option_and_then (λ x. when (p x) (f x)) (slice_get xs i)
  piece_sound xs i d b l e h = sym (ap (option_and_then (λ x. when (p x) (f x))) (slice_get-get_or xs i d l) ∙ ap (λ t. when t (f (get_or xs i d))) (turned b (p (get_or xs i d)) true e h))

  pub piece_faulty : (xs : List X) (i : ℕ) (d : X) (b : Bool) → i < length xs → b ≡ false → b ≡ not (p (get_or xs i d)) → Some (f (get_or xs i d)) ≡ option_and_then (λ x. when (p x) (f x)) (slice_get xs i)
  piece_faulty xs i d b l e h = sym (ap (option_and_then (λ x. when (p x) (f x))) (slice_get-get_or xs i d l) ∙ ap (λ t. when t (f (get_or xs i d))) (turned b (p (get_or xs i d)) false e h))
