-- When an entry agrees with the place of a row, and a list of entries with the places of all rows.
use Rattle.std.proofs.Common.{◌≡◌, ℕ, zero, suc, ◌+◌, ◌≤◌, List, [], ◌∷◌, map, refl, ap, ◌∙◌, Bool, true, false, not, cond, ◌&&◌, Some, length, arith, ◌==◌, eqb-true, eq-eqb}
use Rattle.std.specs.Prelude.{nat_le}
use Rattle.std.specs.List.{slice_get, range_with_len}
use lib.Pointwise.{pointwise}
use borrow.Author.Tests.{le-leb, leb-true}
use Rattle.cs_jix.specs.JoinIndex.{Place, no_place}
use Rattle.cs_schema.proofs.Ascending.{false≢true}
use Rattle.cs_safety.proofs.Distances.{differs}

pub both_true : (s t : Bool) → s ≡ true → t ≡ true → (s && t) ≡ true
both_true s t e f = ap (λ b. b && t) e ∙ f

pub first_true : (s t : Bool) → (s && t) ≡ true → s ≡ true
first_true true t h = refl
first_true false t h = h

pub second_true : (s t : Bool) → (s && t) ≡ true → t ≡ true
second_true true t h = h
second_true false t h = false≢true h

-- ---- an entry, and whether the segment of its place is lost

-- `agrees`, by whether the segment of the place is lost
abbrev pub agrees_if : Bool → Place → Place → Bool
agrees_if b e place = (e.0 == place.0) && cond (b && not (place.1 == 0)) (nat_le 1 e.1) (e.1 == place.1)

-- in a lost segment, an entry that agrees with one place agrees with each other place
pub lost_agrees : (b : Bool) (e : Place) (t k n : ℕ) → 1 ≤ k → 1 ≤ n → agrees_if b e (t, k) ≡ true → agrees_if true e (t, n) ≡ true
lost_agrees b e t k n hk hn a =
    let some : (n == 0) ≡ false = differs n 0 (λ w. omega arith) (n == 0) refl in
    both_true (e.0 == t) (cond (not (n == 0)) (nat_le 1 e.1) (e.1 == n))
    (first_true (e.0 == t) (cond (b && not (k == 0)) (nat_le 1 e.1) (e.1 == k)) a)
    (ap (λ c. cond (not c) (nat_le 1 e.1) (e.1 == n)) some ∙ keyed_entry (b && not (k == 0)) (second_true (e.0 == t) (cond (b && not (k == 0)) (nat_le 1 e.1) (e.1 == k)) a))
  where
    keyed_entry : (c : Bool) → cond c (nat_le 1 e.1) (e.1 == k) ≡ true → nat_le 1 e.1 ≡ true
    keyed_entry true x = x
    keyed_entry false x = let same : e.1 ≡ k = eqb-true e.1 k x in le-leb 1 e.1 (omega arith)

pub dead_agrees : (b c : Bool) (e : Place) → agrees_if b e no_place ≡ true → agrees_if c e no_place ≡ true
dead_agrees true true e a = a
dead_agrees true false e a = a
dead_agrees false true e a = a
dead_agrees false false e a = a

-- an entry that agrees with no place is no place
pub dead_is : (b : Bool) (e : Place) → agrees_if b e no_place ≡ true → e ≡ no_place
dead_is b e a =
    let z : ((e.0 == 0) && (e.1 == 0)) ≡ true = dead_agrees b false e a in
    let x : e.0 ≡ 0 = eqb-true e.0 0 (first_true (e.0 == 0) (e.1 == 0) z) in
    let y : e.1 ≡ 0 = eqb-true e.1 0 (second_true (e.0 == 0) (e.1 == 0) z) in
    λ i. (x i, y i)

-- an entry that agrees with a place names its segment and some key
pub placed_is : (b : Bool) (e : Place) (t k : ℕ) → 1 ≤ k → agrees_if b e (t, k) ≡ true → (e.0 ≡ t) × (1 ≤ e.1)
placed_is b e t k h a =
    (eqb-true e.0 t (first_true (e.0 == t) (cond (b && not (k == 0)) (nat_le 1 e.1) (e.1 == k)) a), go (b && not (k == 0)) (second_true (e.0 == t) (cond (b && not (k == 0)) (nat_le 1 e.1) (e.1 == k)) a))
  where
    go : (c : Bool) → cond c (nat_le 1 e.1) (e.1 == k) ≡ true → 1 ≤ e.1
    go true x = leb-true 1 e.1 x
    go false x = let same : e.1 ≡ k = eqb-true e.1 k x in omega (arith, same, h)

-- in a kept segment, an entry that agrees with a place names its key
pub kept_is : (e : Place) (t k : ℕ) → agrees_if false e (t, k) ≡ true → e.1 ≡ k
kept_is e t k a = eqb-true e.1 k (second_true (e.0 == t) (e.1 == k) a)

-- an entry agrees with a place in a lost segment if it names the segment and some key, in a kept one if it names the
-- key
pub lost_place : (e : Place) (t k : ℕ) → 1 ≤ k → e.0 ≡ t → 1 ≤ e.1 → agrees_if true e (t, k) ≡ true
lost_place e t k h x y =
    let some : (k == 0) ≡ false = differs k 0 (λ w. omega arith) (k == 0) refl in
    both_true (e.0 == t) (cond (not (k == 0)) (nat_le 1 e.1) (e.1 == k)) (eq-eqb e.0 t x) (ap (λ c. cond (not c) (nat_le 1 e.1) (e.1 == k)) some ∙ le-leb 1 e.1 y)

pub kept_place : (e : Place) (t k : ℕ) → e.0 ≡ t → e.1 ≡ k → agrees_if false e (t, k) ≡ true
kept_place e t k x y = both_true (e.0 == t) (e.1 == k) (eq-eqb e.0 t x) (eq-eqb e.1 k y)

-- ---- lists

pub agreed_length : {A B : Type 0} (E : A → B → Bool) (xs : List A) (ys : List B) → pointwise E xs ys ≡ true → length xs ≡ length ys
agreed_length E [] [] e = refl
agreed_length E [] (y ∷ ys) e = false≢true e
agreed_length E (x ∷ xs) [] e = false≢true e
agreed_length E (x ∷ xs) (y ∷ ys) e = let h = agreed_length E xs ys (second_true (E x y) (pointwise E xs ys) e) in omega (arith, h)

-- a list agrees with one made from a function of the index if it does at each index
pub agrees_at_each : {A B : Type 0} (E : A → B → Bool) (f : ℕ → B) (xs : List A) (a n : ℕ) → length xs ≡ n → ((i j : ℕ) (x : A) → slice_get xs i ≡ Some x → j ≡ a + i → E x (f j) ≡ true) → pointwise E xs (map f (range_with_len a n)) ≡ true
agrees_at_each E f [] a zero l h = refl
agrees_at_each E f [] a (suc n) l h = absurd (omega (arith, l))
agrees_at_each E f (x ∷ xs) a zero l h = absurd (omega (arith, l))
agrees_at_each E f (x ∷ xs) a (suc n) l h =
    both_true (E x (f a)) (pointwise E xs (map f (range_with_len (a + 1) n))) (h 0 a x refl (omega arith)) (agrees_at_each E f xs (a + 1) n (omega (arith, l)) (λ i j y e k. h (suc i) j y e (omega (arith, k))))

-- a list that agrees with one map agrees with another if it does at each element
pub agree_map : {A B : Type 0} (E E' : A → B → Bool) (f g : ℕ → B) (xs : List A) (ks : List ℕ) → ((k : ℕ) (x : A) → E x (f k) ≡ true → E' x (g k) ≡ true) → pointwise E xs (map f ks) ≡ true → pointwise E' xs (map g ks) ≡ true
agree_map E E' f g [] [] h e = refl
agree_map E E' f g [] (k ∷ ks) h e = e
agree_map E E' f g (x ∷ xs) [] h e = e
agree_map E E' f g (x ∷ xs) (k ∷ ks) h e =
    both_true (E' x (g k)) (pointwise E' xs (map g ks)) (h k x (first_true (E x (f k)) (pointwise E xs (map f ks)) e)) (agree_map E E' f g xs ks h (second_true (E x (f k)) (pointwise E xs (map f ks)) e))
