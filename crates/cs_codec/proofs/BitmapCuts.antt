-- The bitmaps of a list that is the concatenation of two.
use Rattle.std.proofs.Common.{◌≡◌, ℕ, suc, ◌+◌, ◌-◌, ◌<◌, ◌≤◌, ◌==◌, ◌&&◌, Bool, true, false, cond, List, [], ◌∷◌, ◌++◌, length, map, refl, sym, ap, ◌∙◌, arith, add-zero}
use Rattle.std.proofs.lemmas.Bool.{ne_eqb, eqb-true}
use Rattle.std.proofs.lemmas.List.{append-nil, length-append, map-append, length-map}
use Rattle.cs_codec.specs.Texts.{run_lengths, bitmap_lengths}
use Rattle.cs_codec.specs.Bitmaps.{total, is_some_list, longer_last, merged, glued}

-- the number of zeros after the last one, if the current run has n bits already
abbrev pub after_last : Bool → ℕ → List Bool → ℕ
after_last true n [] = 0
after_last false n [] = n
after_last true n (true ∷ bits) = after_last true (suc n) bits
after_last true n (false ∷ bits) = after_last false 1 bits
after_last false n (true ∷ bits) = after_last true 1 bits
after_last false n (false ∷ bits) = after_last false (suc n) bits

-- each position is in a run or after the last one
pub all_counted : (b : Bool) (n : ℕ) (bits : List Bool) → total (run_lengths b n bits) + after_last b n bits ≡ n + length bits
all_counted true n [] = omega arith
all_counted false n [] = omega arith
all_counted true n (true ∷ bits) = omega (arith, all_counted true (suc n) bits)
all_counted true n (false ∷ bits) = omega (arith, all_counted false 1 bits)
all_counted false n (true ∷ bits) = omega (arith, all_counted true 1 bits)
all_counted false n (false ∷ bits) = omega (arith, all_counted false (suc n) bits)

-- the first length is greater by n
abbrev longer_first : ℕ → List ℕ → List ℕ
longer_first n [] = []
longer_first n (x ∷ xs) = (n + x) ∷ xs

more_counted : (b : Bool) (n k : ℕ) (bits : List Bool) → run_lengths b (n + k) bits ≡ longer_first n (run_lengths b k bits)
more_counted true n k [] = refl
more_counted false n k [] = refl
more_counted true n k (true ∷ bits) =
    let step : suc (n + k) ≡ n + suc k = omega arith in
    ap (λ (m : ℕ). run_lengths true m bits) step ∙ more_counted true n (suc k) bits
more_counted true n k (false ∷ bits) = refl
more_counted false n k (true ∷ bits) = refl
more_counted false n k (false ∷ bits) =
    let step : suc (n + k) ≡ n + suc k = omega arith in
    ap (λ (m : ℕ). run_lengths false m bits) step ∙ more_counted false n (suc k) bits

some_ones : (n : ℕ) (bits : List Bool) → is_some_list (run_lengths true n bits) ≡ true
some_ones n [] = refl
some_ones n (true ∷ bits) = some_ones (suc n) bits
some_ones n (false ∷ bits) = refl

-- if no one follows, the zeros that were counted are still counted
none_after : (n : ℕ) (bits : List Bool) → is_some_list (run_lengths false n bits) ≡ false → n ≤ after_last false n bits
none_after n [] e = omega arith
none_after n (true ∷ bits) e = absurd cc
none_after n (false ∷ bits) e = omega (arith, none_after (suc n) bits e)

after_zeros : (left : List ℕ) (n : ℕ) (bits : List Bool) → glued left 0 (run_lengths false (suc n) bits) ≡ left ++ run_lengths false (suc n) bits
after_zeros left n [] = sym (append-nil left)
after_zeros left n (true ∷ bits) =
    let some : (0 + suc n == 0) ≡ false = ne_eqb (0 + suc n) 0 (λ e. omega arith) in
    let same : 0 + suc n ≡ suc n = omega arith in
    rw some (ap (λ (k : ℕ). left ++ k ∷ run_lengths true 1 bits) same)
after_zeros left n (false ∷ bits) = after_zeros left (suc n) bits

pub none_glued : (n : ℕ) (right : List ℕ) → glued [] n right ≡ longer_first n right
none_glued n [] = refl
none_glued n (z ∷ ns) = by_test (n + z == 0)
  where
    by_test : (b : Bool) → cond (b && false) (merged [] ns) ((n + z) ∷ ns) ≡ (n + z) ∷ ns
    by_test true = refl
    by_test false = refl

-- one more run in front
glued_behind : (n : ℕ) (left : List ℕ) (gap : ℕ) (right : List ℕ) → (is_some_list left ≡ false → 0 < gap) → glued (n ∷ left) gap right ≡ n ∷ glued left gap right
glued_behind n left gap [] h = refl
glued_behind n [] gap (z ∷ ns) h = rw (not_zero (gap + z) (omega (arith, h refl))) refl
  where
    not_zero : (k : ℕ) → 0 < k → (k == 0) ≡ false
    not_zero k lt = ne_eqb k 0 (λ e. omega arith)
glued_behind n (x ∷ left) gap (z ∷ ns) h = by_test (gap + z == 0) ns
  where
    by_test : (b : Bool) (ms : List ℕ) → cond (b && true) (merged (n ∷ x ∷ left) ms) ((n ∷ x ∷ left) ++ (gap + z) ∷ ms) ≡ n ∷ cond (b && true) (merged (x ∷ left) ms) ((x ∷ left) ++ (gap + z) ∷ ms)
    by_test true [] = refl
    by_test true (m ∷ ms) = refl
    by_test false ms = refl

ones_go_on : (n : ℕ) (bits : List Bool) → run_lengths true (n + 1) bits ≡ glued (n ∷ []) 0 (0 ∷ run_lengths true 1 bits)
ones_go_on n bits = more_counted true n 1 bits ∙ by_list (run_lengths true 1 bits) (some_ones 1 bits)
  where
    by_list : (ls : List ℕ) → is_some_list ls ≡ true → longer_first n ls ≡ glued (n ∷ []) 0 (0 ∷ ls)
    by_list [] e = absurd cc
    by_list (x ∷ ls) e = refl

-- the lengths of the concatenation of two lists of bits
pub lengths_glued : (b : Bool) (n : ℕ) (bits more : List Bool) → run_lengths b n (bits ++ more) ≡ glued (run_lengths b n bits) (after_last b n bits) (run_lengths false 0 more)
lengths_glued true n [] [] = refl
lengths_glued true n [] (true ∷ more) =
    let step : suc n ≡ n + 1 = omega arith in
    ap (λ (m : ℕ). run_lengths true m more) step ∙ ones_go_on n more
lengths_glued true n [] (false ∷ more) = sym (after_zeros (n ∷ []) 0 more)
lengths_glued false n [] more =
    ap (λ (m : ℕ). run_lengths false m more) (sym (add-zero n)) ∙ more_counted false n 0 more ∙ sym (none_glued n (run_lengths false 0 more))
lengths_glued true n (true ∷ bits) more = lengths_glued true (suc n) bits more
lengths_glued true n (false ∷ bits) more =
    ap (λ (ls : List ℕ). n ∷ ls) (lengths_glued false 1 bits more)
    ∙ sym (glued_behind n (run_lengths false 1 bits) (after_last false 1 bits) (run_lengths false 0 more) (λ e. omega (arith, none_after 1 bits e)))
lengths_glued false n (true ∷ bits) more =
    ap (λ (ls : List ℕ). n ∷ ls) (lengths_glued true 1 bits more)
    ∙ sym (glued_behind n (run_lengths true 1 bits) (after_last true 1 bits) (run_lengths false 0 more) (λ e. absurd (not_both (is_some_list (run_lengths true 1 bits)) (some_ones 1 bits) e)))
  where
    not_both : (b : Bool) → b ≡ true → b ≡ false → ⊥
    not_both b e f = absurd cc
lengths_glued false n (false ∷ bits) more = lengths_glued false (suc n) bits more

-- ---- the bitmap of a value

pub total_within : {C : Type 0} (eq : C → C → Bool) (x : C) (cells : List C) → total (bitmap_lengths eq x cells) ≤ length cells
total_within eq x cells = omega (arith, all_counted false 0 (map (eq x) cells), length-map cells (eq x))

pub bitmap_glued : {C : Type 0} (eq : C → C → Bool) (x : C) (front back : List C) → bitmap_lengths eq x (front ++ back) ≡ glued (bitmap_lengths eq x front) (length front - total (bitmap_lengths eq x front)) (bitmap_lengths eq x back)
bitmap_glued eq x front back =
    let bits = map (eq x) front in
    let gap : after_last false 0 (map (eq x) front) ≡ length front - total (bitmap_lengths eq x front) = omega (arith, all_counted false 0 (map (eq x) front), length-map front (eq x)) in
    ap (λ (z : List Bool). run_lengths false 0 z) (map-append (eq x) front back)
    ∙ lengths_glued false 0 (map (eq x) front) (map (eq x) back)
    ∙ ap (λ (g : ℕ). glued (bitmap_lengths eq x front) g (bitmap_lengths eq x back)) gap

-- ---- sizes

pub length-glued : (left : List ℕ) (gap : ℕ) (right : List ℕ) → length (glued left gap right) ≤ length left + length right
length-glued left gap [] = omega arith
length-glued left gap (z ∷ ns) = by_test ((gap + z == 0) && is_some_list left) ns
  where
    longer : (xs : List ℕ) (n : ℕ) → length (longer_last xs n) ≡ length xs
    longer [] n = refl
    longer (x ∷ []) n = refl
    longer (x ∷ y ∷ ys) n = ap suc (longer (y ∷ ys) n)

    by_test : (b : Bool) (ms : List ℕ) → length (cond b (merged left ms) (left ++ (gap + z) ∷ ms)) ≤ length left + suc (length ms)
    by_test true [] = omega arith
    by_test true (m ∷ ms) = omega (arith, length-append (longer_last left m) ms, longer left m)
    by_test false ms = omega (arith, length-append left ((gap + z) ∷ ms))

pub total-append : (xs ys : List ℕ) → total (xs ++ ys) ≡ total xs + total ys
total-append [] ys = omega arith
total-append (x ∷ xs) ys = omega (arith, total-append xs ys)

pub total-glued : (left : List ℕ) (gap : ℕ) (z n : ℕ) (ns : List ℕ) → total (glued left gap (z ∷ n ∷ ns)) ≡ total left + gap + total (z ∷ n ∷ ns)
total-glued [] gap z n ns = ap total (none_glued gap (z ∷ n ∷ ns)) ∙ omega arith
total-glued (x ∷ left) gap z n ns = by_test (gap + z == 0) refl
  where
    longer : (y : ℕ) (ys : List ℕ) (k : ℕ) → total (longer_last (y ∷ ys) k) ≡ y + total ys + k
    longer y [] k = omega arith
    longer y (w ∷ ys) k = omega (arith, longer w ys k)

    by_test : (b : Bool) → (gap + z == 0) ≡ b → total (cond (b && true) (merged (x ∷ left) (n ∷ ns)) ((x ∷ left) ++ (gap + z) ∷ n ∷ ns)) ≡ x + total left + gap + total (z ∷ n ∷ ns)
    by_test true e = omega (arith, total-append (longer_last (x ∷ left) n) ns, longer x left n, eqb-true (gap + z) 0 e)
    by_test false e = omega (arith, total-append left ((gap + z) ∷ n ∷ ns))
