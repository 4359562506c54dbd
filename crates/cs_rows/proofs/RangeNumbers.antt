-- Each number below n occurs in the range from 0, and once.
use Rattle.std.proofs.Common.{◌≡◌, ℕ, ◌+◌, ◌<◌, refl, sym, ◌∙◌, arith, ⊎_elim, eqb}
use Rattle.std.specs.Prelude.{All, Contains}
use Rattle.std.specs.List.{range_with_len, IsDistinct}
use Rattle.std.proofs.lemmas.Bool.{cases_order, ne_eqb}
use Rattle.std.proofs.lemmas.List.FromFn.{length-range_with_len, get_or-range_with_len}
use Rattle.std.proofs.lemmas.Map.Keys.{IsDistinct-from_apart}

pub flips : (x y : ℕ) → eqb x y ≡ eqb y x
flips x y = ⊎_elim (λ (e : x ≡ y). rw e refl) (λ o. ⊎_elim (λ (h : x < y). ne_eqb x y (λ e. omega arith) ∙ sym (ne_eqb y x (λ e. omega arith))) (λ (h : y < x). ne_eqb x y (λ e. omega arith) ∙ sym (ne_eqb y x (λ e. omega arith))) o) (cases_order x y)

pub distinct_range : (n : ℕ) → IsDistinct eqb (range_with_len 0 n)
distinct_range n =
    IsDistinct-from_apart eqb (range_with_len 0 n) (λ i j d h k.
    let m : j < n = rw (length-range_with_len 0 n) at k in
    let l : i < n = omega arith in
    let ne : 0 + i ≡ 0 + j → ⊥ = λ e. omega arith in
    rw (get_or-range_with_len 0 n i d l, get_or-range_with_len 0 n j d m) (ne_eqb (0 + i) (0 + j) ne))

pub range_below : (n : ℕ) → All (λ (r : ℕ). r < n) (range_with_len 0 n)
range_below n k d h =
    let lt : k < n = rw (length-range_with_len 0 n) at h in
    rw (get_or-range_with_len 0 n k d lt) (omega arith)

pub range_has : (n r : ℕ) → r < n → Contains (range_with_len 0 n) r
range_has n r h = (r, rw (length-range_with_len 0 n) h, get_or-range_with_len 0 n r r h ∙ (omega arith))
