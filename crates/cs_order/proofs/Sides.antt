-- Taking results that were made in parallel, one after the other.
use Rattle.std.proofs.Common.{◌≡◌, ℕ, suc, ◌+◌, ◌-◌, ◌<◌, List, [], ◌∷◌, length, drop, get_or, sym, subst, ap, ◌∙◌, arith}
use Rattle.std.specs.List.{AllZip, range_with_len}

module _ {X : Type 0} (R : ℕ → X → Type 0) where
  -- what was made for all numbers, in order
  pub all_made : (n m : ℕ) (numbers : List ℕ) (made list : List X) → n ≡ m → numbers ≡ range_with_len 0 (n - 0) → AllZip R numbers made → list ≡ made → AllZip R (range_with_len 0 m) list
  all_made n m numbers made list same all h e =
      let whole : n - 0 ≡ m = omega arith in
      subst (λ (l : List ℕ). AllZip R l list) (all ∙ ap (range_with_len 0) whole) (subst (AllZip R numbers) (sym e) h)

  -- nothing was taken yet
  pub none_taken : (m : ℕ) (xs : List X) → AllZip R (range_with_len 0 m) xs → AllZip R (range_with_len 0 (m - 0)) xs
  none_taken m xs h =
      let whole : m ≡ m - 0 = omega arith in
      subst (λ (k : ℕ). AllZip R (range_with_len 0 k) xs) whole h

  next : (p m : ℕ) (xs : List X) → AllZip R (range_with_len p (suc m)) xs → (0 < length xs) × ((x : X) → x ≡ get_or xs 0 x → R p x × AllZip R (range_with_len (p + 1) m) (drop 1 xs))
  next p m [] h = absurd h
  next p m (y ∷ ys) h = (omega arith, λ x e. (subst (R p) (sym e) h.0, h.1))

  -- the first of those that are left, and the others
  pub one_taken : (p n : ℕ) (xs : List X) → p < n → AllZip R (range_with_len p (n - p)) xs → (0 < length xs) × ((x : X) → x ≡ get_or xs 0 x → R p x × AllZip R (range_with_len (p + 1) (n - (p + 1))) (drop 1 xs))
  one_taken p n xs lt h =
      let some : n - p ≡ suc (n - (p + 1)) = omega arith in
      next p (n - (p + 1)) xs (subst (λ (k : ℕ). AllZip R (range_with_len p k) xs) some h)
