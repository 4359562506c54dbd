-- Results that were made independently, one for each number from 0 on, and collected.
use Rattle.std.proofs.Common.{◌≡◌, ℕ, zero, suc, ◌+◌, ◌-◌, ◌<◌, List, [], ◌∷◌, length, map, get_or, refl, sym, ap, ◌∙◌, subst, arith, Result, Ok, Err}
use Rattle.std.specs.Prelude.{Contains, IfOk, MatchResult}
use Rattle.std.specs.List.{AllZip, range_with_len}

-- if the results were collected, each was made for its number
pub all_there : {X E V : Type 0} (R : ℕ → Result X E → Type 0) (items : V → List X) (n : ℕ) (numbers : List ℕ) (results : List (Result X E)) (r : Result V E)
    → numbers ≡ range_with_len 0 (n - 0) → AllZip R numbers results → MatchResult r (λ v. (xs : List X) × (results ≡ map Ok xs) × (items v ≡ xs)) (λ e. Contains results (Err e))
    → IfOk r (λ v. AllZip R (range_with_len 0 n) (map Ok (items v)))
all_there R items n numbers results (Ok v) e zipped there =
    let whole : n - 0 ≡ n = omega arith in
    subst (λ ns. AllZip R ns (map Ok (items v))) (e ∙ ap (range_with_len 0) whole) (subst (AllZip R numbers) (there.1 ∙ ap (map Ok) (sym there.2)) zipped)
all_there R items n numbers results (Err x) e zipped there = tt

-- results one by one, with what is known of each
pub zipped_as : {X Y : Type 0} {R : X → Y → Type 0} (S : X → Y → Type 0) (xs : List X) (ys : List Y) → AllZip R xs ys → ((x : X) (y : Y) → R x y → S x y) → AllZip S xs ys
zipped_as S [] [] h turn = tt
zipped_as S [] (y ∷ ys) h turn = h
zipped_as S (x ∷ xs) [] h turn = h
zipped_as S (x ∷ xs) (y ∷ ys) h turn = (turn x y h.0, zipped_as S xs ys h.1 turn)

-- what holds of each result
module _ (E : Type 0) {X : Type 0} (P : ℕ → X → Type 0) where
  made_from : (a n : ℕ) (xs : List X) → AllZip (λ k (r : Result X E). IfOk r (P k)) (range_with_len a n) (map Ok xs)
      → (length xs ≡ n) × ((k : ℕ) (d : X) → k < n → P (a + k) (get_or xs k d))
  made_from a zero [] h = (refl, λ k d l. absurd (omega arith))
  made_from a zero (x ∷ xs) h = absurd h
  made_from a (suc n) [] h = absurd h
  made_from a (suc n) (x ∷ xs) h = go (made_from (a + 1) n xs h.1)
    where
      go : (length xs ≡ n) × ((k : ℕ) (d : X) → k < n → P (a + 1 + k) (get_or xs k d)) → (length (x ∷ xs) ≡ suc n) × ((k : ℕ) (d : X) → k < suc n → P (a + k) (get_or (x ∷ xs) k d))
      go rest = (ap suc rest.0, each)
        where
          each : (k : ℕ) (d : X) → k < suc n → P (a + k) (get_or (x ∷ xs) k d)
          each zero d l = subst (λ c. P c x) (let e : a ≡ a + 0 = omega arith in e) h.0
          each (suc k) d l = subst (λ c. P c (get_or xs k d)) (let e : a + 1 + k ≡ a + suc k = omega arith in e) (rest.1 k d (omega arith))

  -- there are n results, and it holds of each
  pub each_made : (n : ℕ) (xs : List X) → AllZip (λ k (r : Result X E). IfOk r (P k)) (range_with_len 0 n) (map Ok xs)
      → (length xs ≡ n) × ((k : ℕ) (d : X) → k < n → P k (get_or xs k d))
  each_made n xs h =
      let made = made_from 0 n xs h in
      (made.0, λ k d l. subst (λ c. P c (get_or xs k d)) (let e : 0 + k ≡ k = omega arith in e) (made.1 k d l))
