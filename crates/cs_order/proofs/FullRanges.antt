-- The first range that has too many rows, found among all segments.
use Rattle.std.proofs.Common.{◌≡◌, ℕ, ◌<◌, ◌≤◌, ◌+◌, List, [], ◌∷◌, ◌++◌, suc, zero, length, map, Some, None, Bool, true, false, cond, refl, sym, ap, ◌∙◌, arith, ⊎_elim}
use Rattle.std.specs.Prelude.{nat_lt}
use Rattle.std.specs.List.{find, flat_map, range_with_len}
use Rattle.std.proofs.lemmas.Bool.{cases_eq, lt-ltb, le-ltb}
use Rattle.std.proofs.lemmas.Option.{none-some}
use Rattle.cs_schema.specs.CatalogData.{CatalogData, segments}
use Rattle.cs_schema.specs.Rows.{Row}
use Rattle.cs_schema.specs.Order.{rows_of, row_limit}
use Rattle.cs_order.specs.Orders.{first_full}
use Rattle.cs_order.specs.Numbers.{RangesFitBelow, ProjectionsFitBelow}

module _ {X : Type 0} (test : X → Bool) where
  find_later : (xs ys : List X) → find test xs ≡ None → find test (xs ++ ys) ≡ find test ys
  find_later [] ys e = refl
  find_later (x ∷ xs) ys e = go (test x) refl e (find_later xs ys)
    where
      go : (b : Bool) → test x ≡ b → cond b (Some x) (find test xs) ≡ None → (find test xs ≡ None → find test (xs ++ ys) ≡ find test ys) → cond (test x) (Some x) (find test (xs ++ ys)) ≡ find test ys
      go true k f rest = absurd (none-some x (sym f))
      go false k f rest = ap (λ b. cond b (Some x) (find test (xs ++ ys))) k ∙ rest f

  find_sooner : (xs ys : List X) (x : X) → find test xs ≡ Some x → find test (xs ++ ys) ≡ Some x
  find_sooner [] ys x e = absurd (none-some x e)
  find_sooner (y ∷ xs) ys x e = go (test y) refl e (find_sooner xs ys x)
    where
      go : (b : Bool) → test y ≡ b → cond b (Some y) (find test xs) ≡ Some x → (find test xs ≡ Some x → find test (xs ++ ys) ≡ Some x) → cond (test y) (Some y) (find test (xs ++ ys)) ≡ Some x
      go true k f rest = ap (λ b. cond b (Some y) (find test (xs ++ ys))) k ∙ f
      go false k f rest = ap (λ b. cond b (Some y) (find test (xs ++ ys))) k ∙ rest f

  none_in : (f : ℕ → X) (a n : ℕ) → ((k : ℕ) → k < a + n → test (f k) ≡ false) → find test (map f (range_with_len a n)) ≡ None
  none_in f a zero fails = refl
  none_in f a (suc n) fails = ap (λ b. cond b (Some (f a)) (find test (map f (range_with_len (a + 1) n)))) (fails a (omega arith)) ∙ none_in f (a + 1) n (λ k h. fails k (omega arith))

  one_in : (f : ℕ → X) (a n k : ℕ) → a ≤ k → k < a + n → ((j : ℕ) → j < k → test (f j) ≡ false) → test (f k) ≡ true → find test (map f (range_with_len a n)) ≡ Some (f k)
  one_in f a zero k from below fails passes = absurd (omega arith)
  one_in f a (suc n) k from below fails passes =
      ⊎_elim
      (λ (e : a ≡ k). ap (λ b. cond b (Some (f a)) (find test (map f (range_with_len (a + 1) n)))) (ap (λ j. test (f j)) e ∙ passes) ∙ ap (λ j. Some (f j)) e)
      (λ (ne : a ≡ k → ⊥). let less : a < k = omega arith in
      ap (λ b. cond b (Some (f a)) (find test (map f (range_with_len (a + 1) n)))) (fails a less) ∙ one_in f (a + 1) n k (omega arith) (omega arith) fails passes)
      (cases_eq a k)

  none_of : (f : ℕ → List X) (a n : ℕ) → ((k : ℕ) → k < a + n → find test (f k) ≡ None) → find test (flat_map f (range_with_len a n)) ≡ None
  none_of f a zero fails = refl
  none_of f a (suc n) fails = find_later (f a) (flat_map f (range_with_len (a + 1) n)) (fails a (omega arith)) ∙ none_of f (a + 1) n (λ k h. fails k (omega arith))

  one_of : (f : ℕ → List X) (a n k : ℕ) (x : X) → a ≤ k → k < a + n → ((j : ℕ) → j < k → find test (f j) ≡ None) → find test (f k) ≡ Some x → find test (flat_map f (range_with_len a n)) ≡ Some x
  one_of f a zero k x from below fails passes = absurd (omega arith)
  one_of f a (suc n) k x from below fails passes =
      ⊎_elim
      (λ (e : a ≡ k). find_sooner (f a) (flat_map f (range_with_len (a + 1) n)) x (ap (λ j. find test (f j)) e ∙ passes))
      (λ (ne : a ≡ k → ⊥). let less : a < k = omega arith in
      find_later (f a) (flat_map f (range_with_len (a + 1) n)) (fails a less) ∙ one_of f (a + 1) n k x (omega arith) (omega arith) fails passes)
      (cases_eq a k)

not_above : (m n : ℕ) → n ≤ m → nat_lt m n ≡ false
not_above m n h = le-ltb m n h

is_above : (m n : ℕ) → m < n → nat_lt m n ≡ true
is_above m n h = lt-ltb m n h

module _ (C : CatalogData) (T : List Row) where
  abbrev too_many : (ℕ × ℕ) → Bool
  too_many a = nat_lt row_limit (length (rows_of C T a.0 a.1))

  none_full_in : (p : ℕ) → RangesFitBelow C T p (segments C p) → find too_many (map (λ (s : ℕ). (p, s)) (range_with_len 0 (segments C p))) ≡ None
  none_full_in p fit = none_in too_many (λ (s : ℕ). (p, s)) 0 (segments C p) (λ s h. not_above row_limit (length (rows_of C T p s)) (fit s (omega arith)))

  pub none_full : ProjectionsFitBelow C T (length C.projections) → first_full C T ≡ None
  none_full fit = none_of too_many (λ (p : ℕ). map (λ (s : ℕ). (p, s)) (range_with_len 0 (segments C p))) 0 (length C.projections) (λ p h. none_full_in p (fit p (omega arith)))

  pub least_full : (p s : ℕ) → p < length C.projections → s < segments C p → row_limit < length (rows_of C T p s) → RangesFitBelow C T p s → ProjectionsFitBelow C T p → first_full C T ≡ Some (p, s)
  least_full p s here range above before fit =
      one_of too_many (λ (q : ℕ). map (λ (t : ℕ). (q, t)) (range_with_len 0 (segments C q))) 0 (length C.projections) p (p, s) (omega arith) (omega arith)
      (λ q h. none_full_in q (fit q h))
      (one_in too_many (λ (t : ℕ). (p, t)) 0 (segments C p) s (omega arith) (omega arith) (λ t h. not_above row_limit (length (rows_of C T p t)) (before t h)) (is_above row_limit (length (rows_of C T p s)) above))
