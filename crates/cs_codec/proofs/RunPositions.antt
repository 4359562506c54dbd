-- The bytes of the positions of a run, and of those after its first.
use Rattle.std.proofs.Common.{◌≡◌, ℕ, suc, ◌+◌, ◌-◌, ◌<◌, ◌≤◌, Bool, true, false, not, if◌then◌else◌, List, [], ◌∷◌, ◌++◌, take, drop, Option, Some, None, sym, ap, ◌∙◌, arith}
use Rattle.std.specs.Prelude.{slice_get}
use Rattle.std.proofs.lemmas.List.{append-nil}
use Rattle.cs_codec.specs.Cells.{number}
use Rattle.cs_codec.specs.RunLaws.{cases_bool}
use Rattle.cs_codec.specs.RunParts.{front_text, front_within, part_text, value_after}
use Rattle.cs_codec.specs.Texts.{differs, kept}
use Rattle.cs_codec.proofs.RunPlaces.{drop_at, in_run, value_after-take}

module _ {C : Type 0} (bytes : C → List ℕ) (eq : C → C → Bool) (xs : List C) where
  -- from position `start` on the run of this value goes up to `end`
  pub record GoesTo (start end : ℕ) (x : C) : Type 0 where
    pub at : slice_get xs start ≡ Some x
    pub end_is : end ≡ start + 1 + kept eq x (drop (start + 1) xs)

  -- from position `start` on the run of this value goes up to `end` or further
  pub record GoesPast (start end : ℕ) (x : C) : Type 0 where
    pub at : slice_get xs start ≡ Some x
    pub end_within : end ≤ start + 1 + kept eq x (drop (start + 1) xs)

  pub past_end : (start end : ℕ) (x : C) → GoesTo start end x → GoesPast start end x
  past_end start end x run = record { at = run.at; end_within = omega (arith, run.end_is) }

  -- its value differs from that of the position before
  abbrev pub Opens : ℕ → C → Type 0
  Opens start x = differs eq (value_after None (take start xs)) x ≡ true

  -- positions after the first of a run have no bytes
  pub part_within : (start end : ℕ) (x : C) → GoesPast start end x → (m : ℕ) → start < m → m ≤ end → part_text bytes eq xs m end ≡ []
  part_within start end x run m low high =
      let j : ℕ = m - start - 1 in
      let there = in_run eq xs start x run.at j (omega (arith, run.end_within, low, high)) in
      let place : start + j + 1 ≡ m = omega (arith, low) in
      let before : value_after None (take m xs) ≡ Some there.cell = ap (λ (k : ℕ). value_after None (take k xs)) (sym place) ∙ value_after-take None xs (start + j) there.cell there.at in
      let left : kept eq there.cell (drop (start + j + 1) xs) ≡ kept eq there.cell (drop m xs) = ap (λ (k : ℕ). kept eq there.cell (drop k xs)) place in
      ap (λ (b : Option C). front_text bytes eq b (suc m) (end - m) (drop m xs)) before
      ∙ front_within bytes eq there.cell (suc m) (end - m) (drop m xs) (omega (arith, run.end_within, there.left, left, place, low, high))

  module _ (start end : ℕ) (x : C) (run : GoesTo start end x) where
    -- the positions have the bytes of the run, if it begins there
    pub part_run : Opens start x → part_text bytes eq xs start end ≡ bytes x ++ number (start + 1) ++ number (end - start)
    part_run opens =
        let bef = value_after None (take start xs) in
        let rest = drop (start + 1) xs in
        let many : ℕ = kept eq x rest in
        let count : end - start ≡ suc many = omega (arith, run.end_is) in
        let first : start + 1 ≡ suc start = omega arith in
        ap (λ (w : List C). front_text bytes eq bef (suc start) (end - start) w) (drop_at xs start x run.at)
        ∙ ap (λ (n : ℕ). front_text bytes eq bef (suc start) n (x ∷ rest)) count
        ∙ ap (λ (b : Bool). (if b then bytes x ++ number (suc start) ++ number (suc many) else []) ++ front_text bytes eq (Some x) (suc (suc start)) many rest) opens
        ∙ ap (λ (w : List ℕ). (bytes x ++ number (suc start) ++ number (suc many)) ++ w) (front_within bytes eq x (suc (suc start)) many rest (omega arith))
        ∙ append-nil (bytes x ++ number (suc start) ++ number (suc many))
        ∙ ap (λ (n : ℕ). bytes x ++ number n ++ number (suc many)) (sym first)
        ∙ ap (λ (n : ℕ). bytes x ++ number (start + 1) ++ number n) (sym count)

    -- the next position has another value
    pub opens_next : (y : C) → slice_get xs end ≡ Some y → Opens end y
    opens_next y e =
        let many : ℕ = kept eq x (drop (start + 1) xs) in
        let last = in_run eq xs start x run.at many (omega arith) in
        let place : start + many + 1 ≡ end = omega (arith, run.end_is) in
        let before : value_after None (take end xs) ≡ Some last.cell = ap (λ (k : ℕ). value_after None (take k xs)) (sym place) ∙ value_after-take None xs (start + many) last.cell last.at in
        let none : kept eq last.cell (drop (start + many + 1) xs) ≡ 0 = omega (arith, last.left) in
        let over : kept eq last.cell (y ∷ drop (end + 1) xs) ≡ 0 = ap (kept eq last.cell) (sym (drop_at xs end y e)) ∙ ap (λ (k : ℕ). kept eq last.cell (drop k xs)) (sym place) ∙ none in
        let other : eq last.cell y ≡ false = cases_bool (eq last.cell y) (λ s. let some : suc (kept eq y (drop (end + 1) xs)) ≡ 0 = rw s at over in absurd (omega (arith, some))) (λ s. s) in
        ap (λ (b : Option C). differs eq b y) before ∙ ap not other
