-- Parts of concatenated lists.
use Rattle.std.proofs.Common.{◌≡◌, ℕ, ◌+◌, ◌-◌, ◌<◌, ◌≤◌, List, [], ◌∷◌, ◌++◌, length, map, take, drop, refl, sym, ap, ◌∙◌, arith, min, zero-add, length-append}
use Rattle.std.specs.List.{flat_map, range_with_len}
use Rattle.std.proofs.lemmas.List.{get_or-take, get_or-drop, length-take, length-drop}
use Rattle.std.proofs.lemmas.List.FromFn.{fill_by_all, get_or-map-range_with_len, length-map-range_with_len}
use Rattle.cs_schema.specs.Lists.{numbers_below}
use Rattle.cs_schema.proofs.Lists.{flat_more}
use Rattle.cs_rows.proofs.RangeLemmas.{range_plus, map_append, part_append, flat_map_append}

-- ---- numbered elements

module _ {X : Type 0} (g : ℕ → X) where
  abbrev pub run : ℕ → ℕ → List X
  run start n = map g (range_with_len start n)

  run_plus : (a n m : ℕ) → run a (n + m) ≡ run a n ++ run (a + n) m
  run_plus a n m = ap (map g) (range_plus a n m) ∙ map_append g (range_with_len a n) (range_with_len (a + n) m)

  pub run_more : (start i : ℕ) → start ≤ i → run start (i + 1 - start) ≡ run start (i - start) ++ g i ∷ []
  run_more start i h =
      let e : i + 1 - start ≡ (i - start) + 1 = omega arith in
      let b : start + (i - start) ≡ i = omega arith in
      ap (run start) e ∙ run_plus start (i - start) 1 ∙ ap (λ (k : ℕ). run start (i - start) ++ g k ∷ []) b

  pub run_split : (start i end : ℕ) → start ≤ i → i < end → run start (end - start) ≡ run start (i - start) ++ (g i ∷ [] ++ run (i + 1) (end - (i + 1)))
  run_split start i end h k =
      let e : end - start ≡ (i - start) + (1 + (end - (i + 1))) = omega arith in
      let b : start + (i - start) ≡ i = omega arith in
      ap (run start) e ∙ run_plus start (i - start) (1 + (end - (i + 1)))
      ∙ ap (λ (n : ℕ). run start (i - start) ++ run n (1 + (end - (i + 1)))) b
      ∙ ap (λ (l : List X). run start (i - start) ++ l) (run_plus i 1 (end - (i + 1)))

  pub run_part : (n a b : ℕ) → drop a (take b (run 0 n)) ≡ run (min a n) (min b n - min a n)
  run_part n a b =
      let at : ℕ → X = λ k. g (min a n + k) in
      let m : ℕ = min b n - min a n in
      let l0 : length (run 0 n) ≡ n = length-map-range_with_len g 0 n in
      let l1 : length (drop a (take b (run 0 n))) ≡ m = length-drop a (take b (run 0 n)) ∙ ap (λ k. k - a) (length-take b (run 0 n) ∙ ap (min b) l0) ∙ omega arith in
      fill_by_all at (drop a (take b (run 0 n))) m (g 0) l1
      (λ k h.
      let ab : a + k < b = omega arith in
      let an : a + k < n = omega arith in
      let e : a + k ≡ min a n + k = omega arith in
      get_or-drop a (take b (run 0 n)) k (g 0) ∙ get_or-take b (run 0 n) (a + k) (g 0) ab ∙ get_or-map-range_with_len g 0 n (a + k) (a + k) (g 0) an (zero-add (a + k)) ∙ ap g e)
      ∙ sym (fill_by_all at (run (min a n) m) m (g 0) (length-map-range_with_len g (min a n) m) (λ k h. get_or-map-range_with_len g (min a n) m k (min a n + k) (g 0) h refl))

-- ---- concatenated lists

module _ {X : Type 0} (f : ℕ → List X) where
  -- the first n lists
  abbrev pub done : ℕ → List X
  done n = flat_map f (numbers_below n)

  abbrev pub part : ℕ → ℕ → ℕ → List X
  part start end n = drop start (take end (done n))

  abbrev pub here : ℕ → ℕ → ℕ → ℕ → List X
  here start end first n = drop (start - first) (take (end - first) (f n))

  done_more : (n : ℕ) → done (n + 1) ≡ done n ++ f n
  done_more n = let z : 0 + n ≡ n = omega arith in flat_more f 0 n ∙ ap (λ k. done n ++ f k) z

  pub first_more : (first n : ℕ) → first ≡ length (done n) → first + length (f n) ≡ length (done (n + 1))
  first_more first n e = sym (ap length (done_more n) ∙ length-append (done n) (f n) ∙ ap (λ k. k + length (f n)) (sym e))

  pub part_more : (start end first n : ℕ) → first ≡ length (done n) → part start end (n + 1) ≡ part start end n ++ here start end first n
  part_more start end first n e =
      ap (λ l. drop start (take end l)) (done_more n)
      ∙ part_append start end (done n) (f n)
      ∙ ap (λ m. part start end n ++ drop (start - m) (take (end - m) (f n))) (sym e)

  done_split : (n total : ℕ) → n < total → (rest : List X) × (done total ≡ done n ++ (f n ++ rest))
  done_split n total h =
      let k : ℕ = total - (n + 1) in
      let e : total ≡ n + (1 + k) = omega arith in
      let z : 0 + n ≡ n = omega arith in (
        flat_map f (range_with_len (n + 1) k),
        ap (λ m. flat_map f (range_with_len 0 m)) e
            ∙ ap (flat_map f) (range_plus 0 n (1 + k) ∙ ap (λ m. range_with_len 0 n ++ range_with_len m (1 + k)) z ∙ ap (λ l. range_with_len 0 n ++ l) (range_plus n 1 k))
            ∙ flat_map_append f (range_with_len 0 n) (n ∷ range_with_len (n + 1) k),
      )

  pub part_split : (start end first n total : ℕ) → n < total → first ≡ length (done n) → (rest : List X) × (part start end total ≡ part start end n ++ (here start end first n ++ rest))
  part_split start end first n total h e =
      let d = done_split n total h in
      let a : ℕ = start - first in
      let b : ℕ = end - first in (
        drop (a - length (f n)) (take (b - length (f n)) d.0),
        ap (λ l. drop start (take end l)) d.1
            ∙ part_append start end (done n) (f n ++ d.0)
            ∙ ap (λ m. part start end n ++ drop (start - m) (take (end - m) (f n ++ d.0))) (sym e)
            ∙ ap (λ l. part start end n ++ l) (part_append a b (f n) d.0),
      )
