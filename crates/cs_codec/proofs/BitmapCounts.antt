-- The number of positions that the bitmaps of a list's values mark.
use Rattle.std.proofs.Common.{◌≡◌, ℕ, suc, ◌+◌, ◌*◌, ◌<◌, ◌≤◌, Bool, true, false, cond, not, List, [], ◌∷◌, ◌++◌, length, drop, get_or, map, refl, sym, ap, subst, ◌∙◌, arith, inl, inr, ◌⊎◌}
use Rattle.std.specs.List.{AllByRecursion}
use Rattle.std.specs.List.Sorted.{IsStrictlySortedBy}
use Rattle.std.specs.Cmp.{IsTotalOrder}
use Rattle.std.specs.Ordering.{is_eq, ordering_reverse}
use Rattle.std.specs.declared.cmp.Ordering.{Ordering}
use Rattle.std.specs.declared.cmp.Ordering.TheVariants.{Less}
use Rattle.std.proofs.lemmas.List.{drop_more}
use Rattle.std.proofs.lemmas.Map.Keys.{sorted_head, sorted_tail}
use Rattle.cs_codec.specs.Cells.{IsTest}
use Rattle.cs_codec.specs.Texts.{distinct_values, run_lengths, bitmap_lengths}
use Rattle.cs_codec.specs.Bitmaps.{total, ones_of}
use Rattle.cs_codec.proofs.BitmapKeys.{In, sorted_distinct, to_distinct}

-- the number of set bits
abbrev pub trues : List Bool → ℕ
trues [] = 0
trues (true ∷ bits) = suc (trues bits)
trues (false ∷ bits) = trues bits

ones_of-lengths : (b : Bool) (n : ℕ) (bits : List Bool) → ones_of b (run_lengths b n bits) ≡ cond b n 0 + trues bits
ones_of-lengths true n [] = omega arith
ones_of-lengths false n [] = refl
ones_of-lengths true n (true ∷ bits) = omega (arith, ones_of-lengths true (suc n) bits)
ones_of-lengths true n (false ∷ bits) = omega (arith, ones_of-lengths false 1 bits)
ones_of-lengths false n (true ∷ bits) = omega (arith, ones_of-lengths true 1 bits)
ones_of-lengths false n (false ∷ bits) = omega (arith, ones_of-lengths false (suc n) bits)

pub few_lengths : (b : Bool) (n : ℕ) (bits : List Bool) → length (run_lengths b n bits) ≤ 2 * trues bits + cond b 1 0
few_lengths true n [] = omega arith
few_lengths false n [] = omega arith
few_lengths true n (true ∷ bits) = omega (arith, few_lengths true (suc n) bits)
few_lengths true n (false ∷ bits) = omega (arith, few_lengths false 1 bits)
few_lengths false n (true ∷ bits) = omega (arith, few_lengths true 1 bits)
few_lengths false n (false ∷ bits) = omega (arith, few_lengths false (suc n) bits)

-- the number of positions of a value
abbrev pub stands : {C : Type 0} → (C → C → Bool) → List C → C → ℕ
stands eq xs x = trues (map (eq x) xs)

-- the total number of positions that the bitmaps of these values mark
abbrev pub ones_in : {C : Type 0} → (C → C → Bool) → List C → List C → ℕ
ones_in eq xs values = total (map (λ x. ones_of false (bitmap_lengths eq x xs)) values)

-- the total number of positions of these values
abbrev pub stand_in : {C : Type 0} → (C → C → Bool) → List C → List C → ℕ
stand_in eq xs values = total (map (stands eq xs) values)

pub ones_in-stand_in : {C : Type 0} (eq : C → C → Bool) (xs values : List C) → ones_in eq xs values ≡ stand_in eq xs values
ones_in-stand_in eq xs [] = refl
ones_in-stand_in eq xs (x ∷ values) = omega (arith, ones_of-lengths false 0 (map (eq x) xs), ones_in-stand_in eq xs values)

pub ones_in-push : {C : Type 0} (eq : C → C → Bool) (xs done : List C) (x : C) → ones_in eq xs (done ++ x ∷ []) ≡ ones_in eq xs done + ones_of false (bitmap_lengths eq x xs)
ones_in-push eq xs [] x = omega arith
ones_in-push eq xs (y ∷ done) x = omega (arith, ones_in-push eq xs done x)

pub ones_in-within : {C : Type 0} (eq : C → C → Bool) (xs done rest : List C) → ones_in eq xs done ≤ ones_in eq xs (done ++ rest)
ones_in-within eq xs [] rest = omega arith
ones_in-within eq xs (y ∷ done) rest = omega (arith, ones_in-within eq xs done rest)

-- the number of values that equal this cell
abbrev hits : {C : Type 0} → (C → C → Bool) → C → List C → ℕ
hits eq x values = trues (map (λ d. eq d x) values)

one_more_cell : {C : Type 0} (eq : C → C → Bool) (x : C) (xs values : List C) → stand_in eq (x ∷ xs) values ≡ hits eq x values + stand_in eq xs values
one_more_cell eq x xs [] = refl
one_more_cell eq x xs (d ∷ values) = by_test (eq d x) (one_more_cell eq x xs values)
  where
    by_test : (b : Bool) → stand_in eq (x ∷ xs) values ≡ hits eq x values + stand_in eq xs values → trues (b ∷ map (eq d) xs) + stand_in eq (x ∷ xs) values ≡ trues (b ∷ map (λ z. eq z x) values) + (trues (map (eq d) xs) + stand_in eq xs values)
    by_test true deeper = omega arith
    by_test false deeper = omega arith

no_hits : {C : Type 0} (eq : C → C → Bool) (cmp : C → C → Ordering) (o : IsTotalOrder cmp) (ties : (x y : C) → eq x y ≡ is_eq (cmp x y)) (x : C) (values : List C) → AllByRecursion (λ z. cmp x z ≡ Less) values → hits eq x values ≡ 0
no_hits eq cmp o ties x [] h = refl
no_hits eq cmp o ties x (d ∷ values) h =
    let other : eq d x ≡ false = ties d x ∙ ap is_eq (o.antisymm d x ∙ ap ordering_reverse h.0) in
    rw other (no_hits eq cmp o ties x values h.1)

one_hit : {C : Type 0} (eq : C → C → Bool) (t : IsTest eq) (cmp : C → C → Ordering) (o : IsTotalOrder cmp) (ties : (x y : C) → eq x y ≡ is_eq (cmp x y)) (x : C) (values : List C) → IsStrictlySortedBy cmp values → In x values → hits eq x values ≡ 1
one_hit eq t cmp o ties x [] s m = absurd m
one_hit {C} eq t cmp o ties x (d ∷ values) s m = by_test (eq d x) refl m (one_hit eq t cmp o ties x values (sorted_tail cmp d values s))
  where
    clash : (b : Bool) → b ≡ true → b ≡ false → ⊥
    clash b f g = absurd cc

    by_test : (b : Bool) → eq d x ≡ b → (x ≡ d) ⊎ In x values → (In x values → hits eq x values ≡ 1) → trues (b ∷ map (λ z. eq z x) values) ≡ 1
    by_test true e m deeper = ap suc (no_hits eq cmp o ties x values (subst (λ (z : C). AllByRecursion (λ y. cmp z y ≡ Less) values) (t.exact d x e) (sorted_head cmp d values s)))
    by_test false e (inl same) deeper = absurd (clash (eq d x) (ap (λ (z : C). eq d z) same ∙ t.itself d) e)
    by_test false e (inr m) deeper = deeper m

none_stand : {C : Type 0} (eq : C → C → Bool) (values : List C) → stand_in eq [] values ≡ 0
none_stand eq [] = refl
none_stand eq (d ∷ values) = omega (arith, none_stand eq values)

all_stand : {C : Type 0} (eq : C → C → Bool) (t : IsTest eq) (cmp : C → C → Ordering) (o : IsTotalOrder cmp) (ties : (x y : C) → eq x y ≡ is_eq (cmp x y)) (values : List C) → IsStrictlySortedBy cmp values → (xs : List C) → AllByRecursion (λ x. In x values) xs → stand_in eq xs values ≡ length xs
all_stand eq t cmp o ties values s [] h = none_stand eq values
all_stand eq t cmp o ties values s (x ∷ xs) h = omega (arith, one_more_cell eq x xs values, one_hit eq t cmp o ties x values s h.0, all_stand eq t cmp o ties values s xs h.1)

each_in : {C : Type 0} (P : C → Type 0) (xs : List C) → ((q : C) → In q xs → P q) → AllByRecursion P xs
each_in P [] h = tt
each_in P (x ∷ xs) h = (h x (inl refl), each_in P xs (λ q m. h q (inr m)))

-- each position is marked exactly once
pub all_named : {C : Type 0} (eq : C → C → Bool) (t : IsTest eq) (cmp : C → C → Ordering) (o : IsTotalOrder cmp) (ties : (x y : C) → eq x y ≡ is_eq (cmp x y)) (xs : List C) → stand_in eq xs (distinct_values cmp xs) ≡ length xs
all_named {C} eq t cmp o ties xs =
    all_stand eq t cmp o ties (distinct_values cmp xs) (sorted_distinct cmp o xs) xs (each_in (λ x. In x (distinct_values cmp xs)) xs (λ q m. to_distinct cmp (λ x y e. t.exact x y (ties x y ∙ ap is_eq e)) q xs m))

-- ---- entries that were counted

-- the values that were read mark n positions
abbrev pub Counted : {C : Type 0} → (C → C → Bool) → ℕ → List C → List C → Type 0
Counted eq n done xs = n ≡ ones_in eq xs done

pub counted_more : {C : Type 0} (eq : C → C → Bool) (n more : ℕ) (numbers : List ℕ) → more ≡ ones_of false numbers → (xs done : List C) (x : C) → numbers ≡ bitmap_lengths eq x xs → Counted eq n done xs → Counted eq (n + more) (done ++ x ∷ []) xs
counted_more eq n more numbers e xs done x same h = omega (arith, ones_in-push eq xs done x, ap (λ (z : List ℕ). ones_of false z) same)

pub counted_all : {C : Type 0} (eq : C → C → Bool) (t : IsTest eq) (cmp : C → C → Ordering) (o : IsTotalOrder cmp) (ties : (x y : C) → eq x y ≡ is_eq (cmp x y)) (n : ℕ) (xs : List C) → Counted eq n (distinct_values cmp xs) xs → n ≡ length xs
counted_all eq t cmp o ties n xs h = h ∙ ones_in-stand_in eq xs (distinct_values cmp xs) ∙ all_named eq t cmp o ties xs

pub counted_within : {C : Type 0} (eq : C → C → Bool) (t : IsTest eq) (cmp : C → C → Ordering) (o : IsTotalOrder cmp) (ties : (x y : C) → eq x y ≡ is_eq (cmp x y)) (n : ℕ) (xs done rest : List C) → done ++ rest ≡ distinct_values cmp xs → Counted eq n done xs → n ≤ length xs
counted_within {C} eq t cmp o ties n xs done rest all h =
    omega (arith, h, ones_in-within eq xs done rest, ap (λ (z : List C). ones_in eq xs z) all, ones_in-stand_in eq xs (distinct_values cmp xs), all_named eq t cmp o ties xs)

-- ---- the ones of some lengths

pub ones_first : (ones : Bool) (lengths : List ℕ) (i n : ℕ) → i < length lengths → n ≡ get_or lengths i n → ones_of ones (drop i lengths) ≡ cond ones n 0 + ones_of (not ones) (drop (i + 1) lengths)
ones_first ones lengths i n lt e = ap (λ (z : List ℕ). ones_of ones z) (drop_more lengths i n lt ∙ ap (λ (k : ℕ). k ∷ drop (i + 1) lengths) (sym e)) ∙ by_flag ones
  where
    by_flag : (b : Bool) → ones_of b (n ∷ drop (i + 1) lengths) ≡ cond b n 0 + ones_of (not b) (drop (i + 1) lengths)
    by_flag true = omega arith
    by_flag false = omega arith
