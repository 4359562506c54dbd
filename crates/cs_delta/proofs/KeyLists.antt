-- The keys that items give, and whether a key occurs twice.
use Rattle.std.proofs.Common.{◌≡◌, ℕ, ◌+◌, ◌-◌, ◌<◌, ◌≤◌, ◌==◌, Bool, true, false, cond, List, [], ◌∷◌, ◌++◌, length, get_or, take, sym, ap, ◌∙◌, arith, eq-eqb, append_assoc, nat_cmp}
use Rattle.std.specs.Prelude.{IsTrue, slice_get, Some}
use Rattle.std.specs.List.{filter_map, IsDistinct, AllAdjacentBelow, count_by}
use Rattle.std.specs.List.Sorted.{IsPermutation, IsSorted}
use Rattle.std.proofs.lemmas.Bool.{false≢true}
use Rattle.std.proofs.lemmas.Bool.Decides.{nat_tests}
use Rattle.std.proofs.lemmas.List.{take_more}
use Rattle.std.proofs.lemmas.Option.{slice_get_within, get_or_from_slice_get}
use Rattle.std.proofs.lemmas.List.Elements.{filter_map-append}
use Rattle.std.proofs.lemmas.List.Sorted.{all_adjacent_more, IsPermutation-sym, IsNonDecreasingBy-from_sort}
use Rattle.std.proofs.lemmas.List.Sums.{sum_by-append}
use Rattle.std.proofs.lemmas.Map.Keys.{IsDistinct-IsPermutation, IsDistinct-from_apart, apart_from_distinct, sorted_from_strictly_increasing, below_from_sorted}
use Rattle.cs_delta.specs.Image.{Change}
use Rattle.cs_delta.specs.DeltaFile.{inserted_key, may_follow}

taken_more : (xs : List Change) (i : ℕ) (x : Change) → slice_get xs i ≡ Some x → take (i + 1) xs ≡ take i xs ++ x ∷ []
taken_more xs i x e = take_more xs i x (slice_get_within xs i x e) ∙ ap (λ (y : Change). take i xs ++ y ∷ []) (get_or_from_slice_get xs i x x e)

keys_more : (xs : List Change) (i : ℕ) (x : Change) → slice_get xs i ≡ Some x → filter_map inserted_key (take (i + 1) xs) ≡ filter_map inserted_key (take i xs) ++ filter_map inserted_key (x ∷ [])
keys_more xs i x e = ap (filter_map inserted_key) (taken_more xs i x e) ∙ filter_map-append inserted_key (take i xs) (x ∷ [])

-- one more item is counted
pub count_more : (test : Change → Bool) (xs : List Change) (i : ℕ) (x : Change) → slice_get xs i ≡ Some x → count_by test (take (i + 1) xs) ≡ count_by test (take i xs) + count_by test (x ∷ [])
count_more test xs i x e = ap (count_by test) (taken_more xs i x e) ∙ sum_by-append (λ c. cond (test c) 1 0) (take i xs) (x ∷ [])

flips : (x y : ℕ) → (x == y) ≡ (y == x)
flips x y = grind (arith, nat_tests)

differ : (x y : ℕ) → x < y → (x == y) ≡ false
differ x y l = grind (arith, nat_tests)

-- keys are distinct if no two neighbours are equal after sorting
pub distinct_sorted : (xs ys : List ℕ) → IsPermutation xs ys → IsSorted nat_cmp ys → ((k : ℕ) → k + 1 < length ys → get_or ys k 0 ≡ get_or ys (k + 1) 0 → ⊥) → IsDistinct ◌==◌ xs
distinct_sorted xs ys shuffled sorted apart =
    IsDistinct-IsPermutation ◌==◌ flips ys xs (IsPermutation-sym xs ys shuffled) (IsDistinct-from_apart ◌==◌ ys (λ i j d ij jl. differ (get_or ys i d) (get_or ys j d) (below_from_sorted ys i j d (sorted_from_strictly_increasing ys rises) ij jl)))
  where
    rises : (k : ℕ) → k + 1 < length ys → get_or ys k 0 < get_or ys (k + 1) 0
    rises k l = let le : get_or ys k 0 ≤ get_or ys (k + 1) 0 = IsNonDecreasingBy-from_sort (λ x. x) ys sorted k (k + 1) 0 (omega arith) l in let ne = apart k l in omega arith

pub not_distinct : (xs ys : List ℕ) (i : ℕ) → IsPermutation xs ys → 1 ≤ i → i < length ys → get_or ys (i - 1) 0 ≡ get_or ys i 0 → IsDistinct ◌==◌ xs → ⊥
not_distinct xs ys i shuffled low l same h =
    let apart : (get_or ys (i - 1) 0 == get_or ys i 0) ≡ false = apart_from_distinct ◌==◌ ys (i - 1) i 0 (IsDistinct-IsPermutation ◌==◌ flips xs ys shuffled h) (omega arith) l in
    false≢true (sym apart ∙ eq-eqb (get_or ys (i - 1) 0) (get_or ys i 0) same)

pub keys_step : (xs : List Change) (i : ℕ) (x : Change) (first old new : List ℕ) → slice_get xs i ≡ Some x → old ≡ first ++ filter_map inserted_key (take i xs) → new ≡ old ++ filter_map inserted_key (x ∷ []) → new ≡ first ++ filter_map inserted_key (take (i + 1) xs)
keys_step xs i x first old new e h k =
    k ∙ ap (λ (a : List ℕ). a ++ filter_map inserted_key (x ∷ [])) h ∙ append_assoc first (filter_map inserted_key (take i xs)) (filter_map inserted_key (x ∷ [])) ∙ ap (λ (a : List ℕ). first ++ a) (sym (keys_more xs i x e))

-- ---- the order of items

pub out_of_order : (xs : List Change) (i : ℕ) (a b : Change) → 1 ≤ i → slice_get xs (i - 1) ≡ Some a → slice_get xs i ≡ Some b → may_follow a b ≡ false → AllAdjacentBelow (λ c e. IsTrue (may_follow c e)) xs (length xs) → ⊥
out_of_order xs i a b low ea eb differs h =
    let within = slice_get_within xs i b eb in
    let here : IsTrue (may_follow (get_or xs (i - 1) a) (get_or xs (i - 1 + 1) a)) = h (i - 1) a (omega arith) in
    let back : i ≡ i - 1 + 1 = omega arith in
    let second : get_or xs (i - 1 + 1) a ≡ b = ap (λ n. get_or xs n a) (sym back) ∙ get_or_from_slice_get xs i b a eb in
    false≢true (sym differs ∙ ap (λ c. may_follow c b) (sym (get_or_from_slice_get xs (i - 1) a a ea)) ∙ ap (λ c. may_follow (get_or xs (i - 1) a) c) (sym second) ∙ here)

pub order_more : (xs : List Change) (i : ℕ) (a b : Change) → 1 ≤ i → slice_get xs (i - 1) ≡ Some a → slice_get xs i ≡ Some b → may_follow a b ≡ true → AllAdjacentBelow (λ c e. IsTrue (may_follow c e)) xs i → AllAdjacentBelow (λ c e. IsTrue (may_follow c e)) xs (i + 1)
order_more xs i a b low ea eb passes h =
    all_adjacent_more xs (λ c e. IsTrue (may_follow c e)) i low h (λ d.
    ap (λ c. may_follow c (get_or xs i d)) (get_or_from_slice_get xs (i - 1) a d ea) ∙ ap (λ c. may_follow a c) (get_or_from_slice_get xs i b d eb) ∙ passes)
