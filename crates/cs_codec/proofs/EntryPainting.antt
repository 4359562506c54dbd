-- Giving each row the number of its value, entry by entry.
use Rattle.std.proofs.Common.{◌≡◌, ℕ, zero, suc, ◌+◌, ◌-◌, ◌<◌, ◌≤◌, Bool, true, false, cond, List, [], ◌∷◌, ◌++◌, length, get_or, map, take, drop, replicate, length-append, length-take, length-drop, refl, sym, ap, subst, ◌∙◌, arith, inl, inr}
use Rattle.std.specs.List.{AllByRecursion}
use Rattle.std.specs.Ordering.{is_eq}
use Rattle.std.specs.declared.cmp.Ordering.{Ordering}
use Rattle.std.proofs.lemmas.List.{get_or-map, get_or_append_left, length-map, same_lists}
use Rattle.cs_codec.specs.Cells.{IsTest}
use Rattle.cs_codec.specs.Columns.{cells_at}
use Rattle.cs_codec.specs.Texts.{distinct_values, bitmap_lengths}
use Rattle.cs_codec.specs.BitmapLaws.{bit_at}
use Rattle.cs_codec.specs.Bitmaps.{bits_from}
use Rattle.cs_codec.specs.Painting.{Painted}
use Rattle.cs_codec.proofs.BitmapKeys.{In, to_distinct}

-- the cells whose values have been read are those of the column
abbrev pub Filled : {C : Type 0} → List C → List C → List C → Type 0
Filled {C} cells done xs = (k : ℕ) (d : C) → k < length xs → In (get_or xs k d) done → get_or cells k d ≡ get_or xs k d

filled_more : {C : Type 0} (eq : C → C → Bool) (t : IsTest eq) (cells new : List C) (v : C) (numbers : List ℕ) → Painted v (bits_from false numbers) cells new → (xs done : List C) (x : C) → length xs ≡ length cells → v ≡ x → numbers ≡ bitmap_lengths eq x xs → Filled cells done xs → Filled new (done ++ x ∷ []) xs
filled_more {C} eq t cells new v numbers p xs done x size value ns filled = λ k d less m.
    let bit : get_or (bits_from false numbers) k false ≡ eq x (get_or xs k d) = ap (λ (ls : List ℕ). get_or (bits_from false ls) k false) ns ∙ sym (bit_at eq x xs k) ∙ get_or-map (eq x) xs k d false less in
    let made : get_or new k d ≡ cond (eq x (get_or xs k d)) v (get_or cells k d) = p.at k d (omega (arith, size)) ∙ ap (λ (b : Bool). cond b v (get_or cells k d)) bit in
    by_bool (eq x (get_or xs k d))
    (λ e. made ∙ ap (λ (b : Bool). cond b v (get_or cells k d)) e ∙ value ∙ t.exact x (get_or xs k d) e)
    (λ e. made ∙ ap (λ (b : Bool). cond b v (get_or cells k d)) e ∙ filled k d less (in_front (get_or xs k d) done m (λ same. clash (eq x (get_or xs k d)) (ap (λ (z : C). eq x z) same ∙ t.itself x) e)))
  where
    by_bool : {P : Type 0} (b : Bool) → (b ≡ true → P) → (b ≡ false → P) → P
    by_bool true f g = f refl
    by_bool false f g = g refl

    in_front : (q : C) (front : List C) → In q (front ++ x ∷ []) → (q ≡ x → ⊥) → In q front
    in_front q [] (inl e) n = absurd (n e)
    in_front q [] (inr m) n = absurd m
    in_front q (y ∷ front) (inl e) n = inl e
    in_front q (y ∷ front) (inr m) n = inr (in_front q front m n)

    clash : (b : Bool) → b ≡ true → b ≡ false → ⊥
    clash b e f = absurd cc

pub among_cells : {C : Type 0} (ys : List C) (k : ℕ) (d : C) → k < length ys → In (get_or ys k d) ys
among_cells [] k d lt = absurd (omega arith)
among_cells (y ∷ ys) zero d lt = inl refl
among_cells (y ∷ ys) (suc k) d lt = inr (among_cells ys k d (omega arith))

-- all values have been read
filled_all : {C : Type 0} (eq : C → C → Bool) (t : IsTest eq) (cmp : C → C → Ordering) (ties : (x y : C) → eq x y ≡ is_eq (cmp x y)) (cells xs : List C) → length cells ≡ length xs → Filled cells (distinct_values cmp xs) xs → cells ≡ xs
filled_all {C} eq t cmp ties cells xs size filled =
    same_lists cells xs size (λ k d lt. filled k d (omega (arith, size)) (to_distinct cmp (λ x y e. t.exact x y (ties x y ∙ ap is_eq e)) (get_or xs k d) xs (among_cells xs k d (omega (arith, size)))))

-- ---- numbers of values

-- the value of each number
abbrev named : {C : Type 0} → List C → List ℕ → C → List C
named values numbers d = map (λ n. get_or values n d) numbers

-- the values are those that have been read, in order, and a row whose value has been read has its number
pub record Numbered {C : Type 0} (values : List C) (numbers : List ℕ) (done xs : List C) : Type 0 where
  pub values_are : values ≡ done
  pub filled : (d : C) → Filled (named values numbers d) done xs

pub numbered_begins : {C : Type 0} (values : List C) (numbers : List ℕ) (xs : List C) → values ≡ [] → Numbered values numbers [] xs
numbered_begins values numbers xs e = record { values_are = e; filled = λ d k q lt m. absurd m }

-- each number is that of some value, if there are any
abbrev pub AreBelow : List ℕ → ℕ → Type 0
AreBelow numbers count = (k : ℕ) → k < length numbers → get_or numbers k 0 ≤ count - 1

zero_at : (rows k : ℕ) → get_or (replicate {A = ℕ} rows 0) k 0 ≡ 0
zero_at zero k = refl
zero_at (suc rows) zero = refl
zero_at (suc rows) (suc k) = zero_at rows k

pub zeros_below : (rows : ℕ) → AreBelow (replicate {A = ℕ} rows 0) 0
zeros_below rows = λ k lt. omega (arith, zero_at rows k)

pub below_more : (count : ℕ) (bits : List Bool) (old new : List ℕ) → Painted count bits old new → AreBelow old count → AreBelow new (count + 1)
below_more count bits old new p below = λ k lt.
    let within : k < length old = omega (arith, p.size) in
    subst (λ (n : ℕ). n ≤ count + 1 - 1) (sym (p.at k 0 within)) (by_bit (get_or bits k false) (get_or old k 0) (below k within))
  where
    by_bit : (b : Bool) (n : ℕ) → n ≤ count - 1 → cond b count n ≤ count + 1 - 1
    by_bit true n h = omega arith
    by_bit false n h = omega arith

painted_values : {C : Type 0} (values : List C) (d v : C) (number : ℕ) (bits : List Bool) (old new : List ℕ) → Painted number bits old new → get_or values number d ≡ v → Painted v bits (named values old d) (named values new d)
painted_values {C} values d v number bits old new p e =
    let value = λ (n : ℕ). get_or values n d in
    record {
      size = length-map new value ∙ p.size ∙ sym (length-map old value);
      at = λ k q lt.
          let within : k < length old = omega (arith, length-map old value) in
          get_or-map value new k 0 q (omega (arith, p.size))
          ∙ ap value (p.at k 0 within)
          ∙ by_bit (get_or bits k false) (get_or old k 0)
          ∙ ap (λ (z : C). cond (get_or bits k false) v z) (sym (get_or-map value old k 0 q within));
    }
  where
    by_bit : (b : Bool) (n : ℕ) → get_or values (cond b number n) d ≡ cond b v (get_or values n d)
    by_bit true n = e
    by_bit false n = refl

last_value : {C : Type 0} (values : List C) (v d : C) → get_or (values ++ v ∷ []) (length values) d ≡ v
last_value [] v d = refl
last_value (x ∷ values) v d = last_value values v d

-- one more value changes no other row's value
named_still : {C : Type 0} (values : List C) (v d : C) (numbers : List ℕ) → ((k : ℕ) → k < length numbers → get_or numbers k 0 < length values) → named (values ++ v ∷ []) numbers d ≡ named values numbers d
named_still values v d [] h = refl
named_still {C} values v d (n ∷ numbers) h =
    ap (λ (z : C). z ∷ named (values ++ v ∷ []) numbers d) (get_or_append_left values (v ∷ []) d n (h 0 (omega arith)))
    ∙ ap (λ (zs : List C). get_or values n d ∷ zs) (named_still values v d numbers (λ k lt. h (suc k) (omega arith)))

filled_still : {C : Type 0} (values : List C) (v d : C) (numbers : List ℕ) (done xs : List C) → AreBelow numbers (length values) → values ≡ done → Filled (named values numbers d) done xs → Filled (named (values ++ v ∷ []) numbers d) done xs
filled_still {C} [] v d numbers done xs below e h = λ k q lt m. absurd (subst (λ (z : List C). In (get_or xs k q) z) (sym e) m)
filled_still {C} (x ∷ values) v d numbers done xs below e h = subst (λ (z : List C). Filled z done xs) (sym (named_still (x ∷ values) v d numbers (λ k lt. omega (arith, below k lt)))) h

pub numbered_more : {C : Type 0} (eq : C → C → Bool) (t : IsTest eq) (values : List C) (v : C) (number : ℕ) (lengths old new : List ℕ) → Painted number (bits_from false lengths) old new → number ≡ length values → AreBelow old number → (xs done : List C) (x : C) → length xs ≡ length old → v ≡ x → lengths ≡ bitmap_lengths eq x xs → Numbered values old done xs → Numbered (values ++ v ∷ []) new (done ++ x ∷ []) xs
numbered_more {C} eq t values v number lengths old new p place below xs done x size value ls so_far = record {
  values_are = ap (λ (z : List C). z ++ v ∷ []) so_far.values_are ∙ ap (λ (z : C). done ++ z ∷ []) value;
  filled = λ d.
      filled_more eq t (named (values ++ v ∷ []) old d) (named (values ++ v ∷ []) new d) v lengths
      (painted_values (values ++ v ∷ []) d v number (bits_from false lengths) old new p (ap (λ (n : ℕ). get_or (values ++ v ∷ []) n d) place ∙ last_value values v d))
      xs done x (size ∙ sym (length-map old (λ n. get_or (values ++ v ∷ []) n d))) value ls
      (filled_still values v d old done xs (subst (λ (n : ℕ). AreBelow old n) place below) so_far.values_are (so_far.filled d));
}

-- ---- the cells that the numbers pick

pub one_cell : {C : Type 0} (xs : List C) (n : ℕ) (d : C) → n < length xs → take 1 (drop n xs) ≡ get_or xs n d ∷ []
one_cell [] n d lt = absurd (omega arith)
one_cell (x ∷ xs) zero d lt = refl
one_cell (x ∷ xs) (suc n) d lt = one_cell xs n d (omega arith)

cells_named : {C : Type 0} (values : List C) (d : C) (numbers : List ℕ) → ((k : ℕ) → k < length numbers → get_or numbers k 0 < length values) → cells_at values numbers ≡ named values numbers d
cells_named values d [] h = refl
cells_named {C} values d (n ∷ numbers) h =
    ap (λ (z : List C). z ++ cells_at values numbers) (one_cell values n d (h 0 (omega arith)))
    ∙ ap (λ (zs : List C). get_or values n d ∷ zs) (cells_named values d numbers (λ k lt. h (suc k) (omega arith)))

pub cells_count : {C : Type 0} (values : List C) (numbers : List ℕ) → ((k : ℕ) → k < length numbers → get_or numbers k 0 < length values) → length (cells_at values numbers) ≡ length numbers
cells_count values [] h = refl
cells_count values (n ∷ numbers) h = omega (arith, length-append (take 1 (drop n values)) (cells_at values numbers), length-take 1 (drop n values), length-drop n values, h 0 (omega arith), cells_count values numbers (λ k lt. h (suc k) (omega arith)))

pub all_append : {C : Type 0} (P : C → Type 0) (xs ys : List C) → AllByRecursion P xs → AllByRecursion P ys → AllByRecursion P (xs ++ ys)
all_append P [] ys hx hy = hy
all_append P (x ∷ xs) ys hx hy = (hx.0, all_append P xs ys hx.1 hy)

all_one : {C : Type 0} (P : C → Type 0) (xs : List C) (n : ℕ) → AllByRecursion P xs → AllByRecursion P (take 1 (drop n xs))
all_one P [] zero h = tt
all_one P [] (suc n) h = tt
all_one P (x ∷ xs) zero h = (h.0, tt)
all_one P (x ∷ xs) (suc n) h = all_one P xs n h.1

pub cells_hold : {C : Type 0} (P : C → Type 0) (values : List C) (numbers : List ℕ) → AllByRecursion P values → AllByRecursion P (cells_at values numbers)
cells_hold P values [] h = tt
cells_hold P values (n ∷ numbers) h = all_append P (take 1 (drop n values)) (cells_at values numbers) (all_one P values n h) (cells_hold P values numbers h)

-- all values have been read
pub cells_are : {C : Type 0} (eq : C → C → Bool) (t : IsTest eq) (cmp : C → C → Ordering) (ties : (x y : C) → eq x y ≡ is_eq (cmp x y)) (values : List C) (numbers : List ℕ) (xs : List C) → length numbers ≡ length xs → ((k : ℕ) → k < length numbers → get_or numbers k 0 < length values) → Numbered values numbers (distinct_values cmp xs) xs → cells_at values numbers ≡ xs
cells_are {C} eq t cmp ties values numbers xs size h n =
    filled_all eq t cmp ties (cells_at values numbers) xs (cells_count values numbers h ∙ size) (λ k d lt m. ap (λ (z : List C). get_or z k d) (cells_named values d numbers h) ∙ n.filled d k d lt m)
