-- A list in pieces of the same length.
use Rattle.std.proofs.Common.{◌≡◌, ℕ, zero, suc, ◌+◌, ◌-◌, ◌*◌, ◌<◌, ◌≤◌, List, [], ◌∷◌, ◌++◌, take, drop, length, refl, sym, ap, ◌∙◌, Bool, true, false, Some, None, arith, cond, min}
use Rattle.std.specs.List.{find}
use Rattle.std.proofs.lemmas.Option.{none-some}
use Rattle.std.proofs.Math.Seq.{take-add}
use Rattle.std.proofs.lemmas.List.{take_rest, take_all}
use Rattle.std.proofs.Common.{length-drop}
use Rattle.std.specs.Prelude.{nat_lt}
use Rattle.std.proofs.lemmas.Bool.{false≢true}
use borrow.Author.Tests.{ltb-true, lt-ltb}

module _ {X : Type 0} (p : X → Bool) where
  pub find_none : (xs ys : List X) → find p xs ≡ None → find p (xs ++ ys) ≡ find p ys
  find_none [] ys h = refl
  find_none (x ∷ xs) ys h = go (p x) refl (find_none xs ys) h
    where
      go : (b : Bool) → p x ≡ b → (find p xs ≡ None → find p (xs ++ ys) ≡ find p ys) → cond (p x) (Some x) (find p xs) ≡ None → cond (p x) (Some x) (find p (xs ++ ys)) ≡ find p ys
      go true e f n = absurd (none-some x (sym n ∙ ap (λ b. cond b (Some x) (find p xs)) e))
      go false e f n = ap (λ b. cond b (Some x) (find p (xs ++ ys))) e ∙ f (sym (ap (λ b. cond b (Some x) (find p xs)) e) ∙ n)

  pub find_some : (xs ys : List X) (y : X) → find p xs ≡ Some y → find p (xs ++ ys) ≡ Some y
  find_some [] ys y h = absurd (none-some y h)
  find_some (x ∷ xs) ys y h = go (p x) refl (find_some xs ys y) h
    where
      go : (b : Bool) → p x ≡ b → (find p xs ≡ Some y → find p (xs ++ ys) ≡ Some y) → cond (p x) (Some x) (find p xs) ≡ Some y → cond (p x) (Some x) (find p (xs ++ ys)) ≡ Some y
      go true e f n = ap (λ b. cond b (Some x) (find p (xs ++ ys))) e ∙ sym (ap (λ b. cond b (Some x) (find p xs)) e) ∙ n
      go false e f n = ap (λ b. cond b (Some x) (find p (xs ++ ys))) e ∙ f (sym (ap (λ b. cond b (Some x) (find p xs)) e) ∙ n)

  split_at : (m : ℕ) (xs : List X) → xs ≡ take m xs ++ drop m xs
  split_at zero xs = refl
  split_at (suc m) [] = refl
  split_at (suc m) (x ∷ xs) = ap (λ l. x ∷ l) (split_at m xs)

  module _ (c : ℕ) (xs : List X) where
    pub before_none : (i : ℕ) → ((k : ℕ) → k < i → find p (take c (drop (k * c) xs)) ≡ None) → find p (take (i * c) xs) ≡ None
    before_none zero h = ap (λ k. find p (take k xs)) (let e : 0 * c ≡ 0 = omega arith in e)
    before_none (suc i) h =
        ap (λ k. find p (take k xs)) (let e : suc i * c ≡ i * c + c = grind arith in e) ∙ ap (find p) (take-add (i * c) c xs) ∙ find_none (take (i * c) xs) (take c (drop (i * c) xs)) (before_none i (λ k l. h k (omega arith))) ∙ h i (omega arith)

    pub first_piece : (i : ℕ) (y : X) → find p (take c (drop (i * c) xs)) ≡ Some y → ((k : ℕ) → k < i → find p (take c (drop (k * c) xs)) ≡ None) → find p xs ≡ Some y
    first_piece i y e h =
        ap (find p) (split_at (i * c) xs) ∙ find_none (take (i * c) xs) (drop (i * c) xs) (before_none i h) ∙ ap (find p) (split_at c (drop (i * c) xs))
        ∙ find_some (take c (drop (i * c) xs)) (drop c (drop (i * c) xs)) y e

-- a piece that ends with the list is the same piece
pub cut_piece : {X : Type 0} (a b : ℕ) (xs : List X) → b ≤ a → take (min a (length xs) - b) (drop b xs) ≡ take (a - b) (drop b xs)
cut_piece a b xs h = go (nat_lt (length xs) a) refl
  where
    go : (t : Bool) → nat_lt (length xs) a ≡ t → take (min a (length xs) - b) (drop b xs) ≡ take (a - b) (drop b xs)
    go true e =
        let l : length xs < a = ltb-true (length xs) a e in
        let m : min a (length xs) ≡ length xs = omega arith in
        let k : length (drop b xs) ≡ length xs - b = length-drop b xs in
        ap (λ n. take (n - b) (drop b xs)) m ∙ take_rest xs b ∙ sym (take_all (a - b) (drop b xs) (omega arith))
    go false e =
        let l : length xs < a → ⊥ = λ k. false≢true (sym e ∙ lt-ltb (length xs) a k) in
        let m : min a (length xs) ≡ a = omega arith in
        ap (λ n. take (n - b) (drop b xs)) m

-- if no piece has an element that passes, the list has none
pub no_piece : {X : Type 0} (p : X → Bool) (c : ℕ) (xs : List X) (count : ℕ) → length xs ≤ count * c → ((k : ℕ) → k < count → find p (take c (drop (k * c) xs)) ≡ None) → find p xs ≡ None
no_piece p c xs count l h = ap (find p) (sym (take_all (count * c) xs l)) ∙ before_none p c xs count h
