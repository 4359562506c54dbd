-- The cells at some indices of a column, run by run.
use Rattle.std.proofs.Common.{◌≡◌, ℕ, zero, suc, ◌+◌, ◌<◌, ◌≤◌, Bool, true, false, List, [], ◌∷◌, ◌++◌, length, get_or, take, drop, zero-add, Option, Some, refl, sym, ap, ◌∙◌, arith}
use Rattle.std.specs.Prelude.{nat_lt, slice_get, slice_index}
use Rattle.std.proofs.lemmas.Bool.{false≢true}
use borrow.Author.Tests.{ltb-true, lt-ltb}
use Rattle.std.proofs.lemmas.Option.{same_Some, slice_get-get_or, slice_get_within}
use Rattle.cs_codec.specs.Cells.{IsTest}
use Rattle.cs_codec.specs.Columns.{cells_at}
use Rattle.cs_codec.specs.RunLaws.{cases_bool}
use Rattle.cs_codec.specs.RunParts.{value_after}
use Rattle.cs_codec.specs.Texts.{kept}
use Rattle.cs_codec.proofs.EntryPainting.{one_cell}
use Rattle.cs_codec.proofs.RunColumns.{cell_at}

-- each index is within the list
abbrev pub ArePlaces : {C : Type 0} → List C → List ℕ → Type 0
ArePlaces cells places = (k : ℕ) → k < length places → slice_index places k < length cells

first_placed : {C : Type 0} (cells : List C) (n : ℕ) (x : C) → slice_get cells n ≡ Some x → take 1 (drop n cells) ≡ x ∷ []
first_placed {C} cells n x e =
    let inside = slice_get_within cells n x e in
    one_cell cells n x inside ∙ ap (λ (z : C). z ∷ []) (same_Some (get_or cells n x) x (sym (slice_get-get_or cells n x inside) ∙ e))

pub cell_placed : {C : Type 0} (cells : List C) (places : List ℕ) (k : ℕ) → ArePlaces cells places → k < length places → slice_get (cells_at cells places) k ≡ slice_get cells (slice_index places k)
cell_placed cells [] k h l = absurd (omega (arith, l))
cell_placed {C} cells (n ∷ places) zero h l =
    let found = cell_at cells n (h 0 (omega arith)) in
    ap (λ (w : List C). slice_get (w ++ cells_at cells places) 0) (first_placed cells n found.cell found.is) ∙ sym found.is
cell_placed {C} cells (n ∷ places) (suc k) h l =
    let found = cell_at cells n (h 0 (omega arith)) in
    ap (λ (w : List C). slice_get (w ++ cells_at cells places) (suc k)) (first_placed cells n found.cell found.is) ∙ cell_placed cells places k (λ i m. h (suc i) (omega (arith, m))) (omega (arith, l))

pub drop_at : {C : Type 0} (xs : List C) (k : ℕ) (x : C) → slice_get xs k ≡ Some x → drop k xs ≡ x ∷ drop (k + 1) xs
drop_at [] k x e = absurd cc
drop_at {C} (y ∷ xs) zero x e = ap (λ (z : C). z ∷ xs) (same_Some y x e)
drop_at {C} (y ∷ xs) (suc k) x e = let next : suc (k + 1) ≡ suc k + 1 = omega arith in drop_at xs k x e ∙ ap (λ (m : ℕ). x ∷ drop m (y ∷ xs)) next

drop_none : {C : Type 0} (n : ℕ) → drop {A = C} n [] ≡ []
drop_none zero = refl
drop_none (suc n) = refl

-- the run continues
pub run_longer : {C : Type 0} (eq : C → C → Bool) (t : IsTest eq) (xs : List C) (x : C) (end : ℕ) → slice_get xs end ≡ Some x → end + kept eq x (drop end xs) ≡ end + 1 + kept eq x (drop (end + 1) xs)
run_longer eq t xs x end e =
    let one : kept eq x (drop end xs) ≡ suc (kept eq x (drop (end + 1) xs)) = ap (kept eq x) (drop_at xs end x e) ∙ rw (t.itself x) refl in
    omega (arith, one)

-- another value ends a run
pub run_over : {C : Type 0} (eq : C → C → Bool) (t : IsTest eq) (xs : List C) (x y : C) (end : ℕ) → slice_get xs end ≡ Some y → (x ≡ y → ⊥) → kept eq x (drop end xs) ≡ 0
run_over eq t xs x y end e other =
    ap (kept eq x) (drop_at xs end y e) ∙ cases_bool (eq x y) (λ s. absurd (other (t.exact x y s))) (λ s. rw s refl)

-- the end of the list ends a run
pub run_last : {C : Type 0} (eq : C → C → Bool) (xs : List C) (x : C) (end : ℕ) → length xs ≤ end → kept eq x (drop end xs) ≡ 0
run_last eq [] x end l = ap (kept eq x) (drop_none end)
run_last eq (y ∷ xs) x zero l = absurd (omega (arith, l))
run_last eq (y ∷ xs) x (suc end) l = run_last eq xs x end (omega (arith, l))

-- a run continues for at most the rest of the list
pub kept_few : {C : Type 0} (eq : C → C → Bool) (x : C) (xs : List C) → kept eq x xs ≤ length xs
kept_few eq x [] = omega arith
kept_few eq x (y ∷ xs) =
    let fewer = kept_few eq y xs in
    cases_bool (eq x y) (λ s. rw s (omega (arith, fewer))) (λ s. rw s (omega arith))

-- ---- the rest of a run

pub value_after-take : {C : Type 0} (before : Option C) (xs : List C) (i : ℕ) (x : C) → slice_get xs i ≡ Some x → value_after before (take (i + 1) xs) ≡ Some x
value_after-take before [] i x e = absurd cc
value_after-take before (y ∷ xs) zero x e = e
value_after-take {C} before (y ∷ xs) (suc i) x e = let next : suc (i + 1) ≡ suc i + 1 = omega arith in ap (λ (k : ℕ). value_after before (take k (y ∷ xs))) (sym next) ∙ value_after-take (Some y) xs i x e

le_of_not : (m n : ℕ) → nat_lt m n ≡ false → n ≤ m
le_of_not m n e = let no : m < n → ⊥ = λ l. false≢true (sym e ∙ lt-ltb m n l) in omega (arith, no)

module _ {C : Type 0} (eq : C → C → Bool) where
  -- the next cell of a run that continues
  pub record GoesOn (xs : List C) (m kept_there : ℕ) : Type 0 where
    pub cell : C
    pub at : slice_get xs m ≡ Some cell
    pub less : kept_there ≡ suc (kept eq cell (drop (m + 1) xs))

  goes_on : (xs : List C) (m : ℕ) (y : C) → 1 ≤ kept eq y (drop m xs) → GoesOn xs m (kept eq y (drop m xs))
  goes_on xs m y l = go (nat_lt m (length xs)) refl
    where
      go : (b : Bool) → nat_lt m (length xs) ≡ b → GoesOn xs m (kept eq y (drop m xs))
      go false e = let over = run_last eq xs y m (le_of_not m (length xs) e) in absurd (omega (arith, over, l))
      go true e =
          let found = cell_at xs m (ltb-true m (length xs) e) in
          let here = drop_at xs m found.cell found.is in
          let one : kept eq y (found.cell ∷ drop (m + 1) xs) ≡ suc (kept eq found.cell (drop (m + 1) xs)) =
          cases_bool (eq y found.cell) (λ s. rw s refl) (λ s. let none : kept eq y (drop m xs) ≡ 0 = ap (kept eq y) here ∙ rw s refl in absurd (omega (arith, none, l))) in
          record { cell = found.cell; at = found.is; less = ap (kept eq y) here ∙ one }

  -- the j-th cell after the first of a run, from which the run continues for j cells fewer
  pub record IsInRun (xs : List C) (start j whole : ℕ) : Type 0 where
    pub cell : C
    pub at : slice_get xs (start + j) ≡ Some cell
    pub left : j + kept eq cell (drop (start + j + 1) xs) ≡ whole

  pub in_run : (xs : List C) (start : ℕ) (x : C) → slice_get xs start ≡ Some x → (j : ℕ) → j ≤ kept eq x (drop (start + 1) xs) → IsInRun xs start j (kept eq x (drop (start + 1) xs))
  in_run xs start x e zero l =
      let same : start ≡ start + 0 = omega arith in
      record { cell = x; at = ap (slice_get xs) (sym same) ∙ e; left = ap (λ (k : ℕ). 0 + kept eq x (drop (k + 1) xs)) (sym same) ∙ zero-add (kept eq x (drop (start + 1) xs)) }
  in_run xs start x e (suc j) l =
      let before = in_run xs start x e j (omega (arith, l)) in
      let next = goes_on xs (start + j + 1) before.cell (omega (arith, before.left, l)) in
      let place : start + j + 1 ≡ start + suc j = omega arith in
      let less : kept eq before.cell (drop (start + j + 1) xs) ≡ suc (kept eq next.cell (drop (start + suc j + 1) xs)) = next.less ∙ ap (λ (k : ℕ). suc (kept eq next.cell (drop (k + 1) xs))) place in
      record { cell = next.cell; at = ap (slice_get xs) (sym place) ∙ next.at; left = omega (arith, before.left, less) }
