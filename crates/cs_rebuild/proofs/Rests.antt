-- The answers that are left of a list of them.
use Rattle.std.proofs.Common.{◌≡◌, ℕ, suc, ◌+◌, List, ◌∷◌, refl, subst, arith}
use Rattle.cs_board.specs.Pieces.{AnswersInOrder}

module _ {X : Type 0} (P : ℕ → X → Type 0) where
  -- the answers from the k-th on
  abbrev pub AnswersFrom : ℕ → List X → Type 0
  AnswersFrom k outs = AnswersInOrder (λ i. P (k + i)) outs

  pub all_answers : (outs : List X) → AnswersInOrder P outs → AnswersFrom 0 outs
  all_answers outs h i out at = let same : i ≡ 0 + i = omega arith in subst (λ n. P n out) same (h i out at)

  pub first_answer : (k : ℕ) (out : X) (outs : List X) → AnswersFrom k (out ∷ outs) → P k out
  first_answer k out outs h = let same : k + 0 ≡ k = omega arith in subst (λ n. P n out) same (h 0 out refl)

  pub later_answers : (k n : ℕ) (first : X) (outs : List X) → n ≡ k + 1 → AnswersFrom k (first ∷ outs) → AnswersFrom n outs
  later_answers k n first outs e h i out at = let same : k + suc i ≡ n + i = omega (arith, e) in subst (λ m. P m out) same (h (suc i) out at)
