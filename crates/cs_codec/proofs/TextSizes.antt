-- The greatest length of a column's body, if no cell has more than 256 bytes.
use Rattle.std.proofs.Common.{◌≡◌, ℕ, zero, suc, ◌+◌, ◌*◌, ◌≤◌, ◌%◌, ◌/◌, Bool, true, false, cond, eqb, List, [], ◌∷◌, ◌++◌, length, map, Option, Some, arith, ℤ}
use Rattle.std.specs.Prelude.{flat_map, ◌-ℤ◌, pos, nat_lt}
use Rattle.std.specs.Int.RustNames.{unsigned_abs}
use Rattle.std.specs.List.{AllByRecursion}
use Rattle.std.specs.Cmp.{IsTotalOrder}
use Rattle.std.specs.Ordering.{is_eq}
use Rattle.std.specs.declared.cmp.Ordering.{Ordering}
use Rattle.std.specs.declared.cmp.Ordering.TheVariants.{Less, Equal, Greater}
use Rattle.std.proofs.lemmas.List.{length-append}
use Rattle.cs_codec.specs.Cells.{number, int_cell}
use Rattle.cs_codec.specs.CellLaws.{length-number, length-int_cell}
use Rattle.cs_codec.specs.Cells.{IsTest}
use Rattle.cs_codec.specs.Texts.{plain_text, differs, kept, runs_text_from, runs_text, groups, short, differences_text_from, differences_text, place_value, insert_value, distinct_values, bitmap_lengths, bitmap_text, bitmaps_text}
use Rattle.cs_codec.specs.BitmapLaws.{holds_distinct}
use Rattle.cs_codec.proofs.BitmapCounts.{stands, stand_in, few_lengths, all_named}

-- the cell has at most 256 bytes
abbrev pub IsSmall : {C : Type 0} → (C → List ℕ) → C → Type 0
IsSmall bytes x = length (bytes x) ≤ 256

pub plain_size : {C : Type 0} (bytes : C → List ℕ) (xs : List C) → AllByRecursion (IsSmall bytes) xs → length (plain_text bytes xs) ≤ 256 * length xs
plain_size bytes [] h = omega arith
plain_size bytes (x ∷ xs) h =
    let first = h.0 in
    omega (arith, length-append (bytes x) (plain_text bytes xs), plain_size bytes xs h.1, first)

runs_size_from : {C : Type 0} (bytes : C → List ℕ) (eq : C → C → Bool) (before : Option C) (p : ℕ) (xs : List C) → AllByRecursion (IsSmall bytes) xs → length (runs_text_from bytes eq before p xs) ≤ 264 * length xs
runs_size_from bytes eq before p [] h = omega arith
runs_size_from bytes eq before p (x ∷ xs) h = by_test (differs eq before x) (runs_size_from bytes eq (Some x) (suc p) xs h.1) h.0
  where
    by_test : (b : Bool) → length (runs_text_from bytes eq (Some x) (suc p) xs) ≤ 264 * length xs → length (bytes x) ≤ 256 → length (cond b (bytes x ++ number p ++ number (suc (kept eq x xs))) [] ++ runs_text_from bytes eq (Some x) (suc p) xs) ≤ 264 * suc (length xs)
    by_test true deeper first =
        let rest = runs_text_from bytes eq (Some x) (suc p) xs in
        let n : ℕ = suc (kept eq x xs) in
        omega (arith, length-append (bytes x ++ number p ++ number n) rest, length-append (bytes x ++ number p) (number n), length-append (bytes x) (number p), length-number p, length-number n)
    by_test false deeper first = omega arith

pub runs_size : {C : Type 0} (bytes : C → List ℕ) (eq : C → C → Bool) (xs : List C) → AllByRecursion (IsSmall bytes) xs → length (runs_text bytes eq xs) ≤ 264 * length xs
runs_size bytes eq xs h = runs_size_from bytes eq _ 1 xs h

groups_size : (more n : ℕ) → length (groups more n) ≤ more + 1
groups_size zero n = omega arith
groups_size (suc more) n = by_test (nat_lt n 128) (groups_size more (n / 128))
  where
    by_test : (b : Bool) → length (groups more (n / 128)) ≤ more + 1 → length (cond b (n ∷ []) ((n % 128 + 128) ∷ groups more (n / 128))) ≤ suc more + 1
    by_test true deeper = omega arith
    by_test false deeper = omega arith

short_size : (n : ℕ) → length (short n) ≤ 10
unfolding short
short_size n = groups_size 9 n

differences_size_from : (before : ℤ) (p : ℕ) (xs : List ℤ) → length (differences_text_from before p xs) ≤ 12 * length xs
differences_size_from before p [] = omega arith
differences_size_from before p (x ∷ xs) = by_test (eqb (p % 128) 1) (differences_size_from x (suc p) xs)
  where
    by_test : (b : Bool) → length (differences_text_from x (suc p) xs) ≤ 12 * length xs → length (cond b (number p ++ int_cell x) (short (unsigned_abs (x -ℤ before))) ++ differences_text_from x (suc p) xs) ≤ 12 * suc (length xs)
    by_test true deeper = omega (arith, length-append (number p ++ int_cell x) (differences_text_from x (suc p) xs), length-append (number p) (int_cell x), length-number p, length-int_cell x)
    by_test false deeper = omega (arith, length-append (short (unsigned_abs (x -ℤ before))) (differences_text_from x (suc p) xs), short_size (unsigned_abs (x -ℤ before)))

pub differences_size : (xs : List ℤ) → length (differences_text xs) ≤ 12 * length xs
differences_size xs = differences_size_from (pos 0) 1 xs

-- ---- bitmaps

numbers_size : (ns : List ℕ) → length (flat_map number ns) ≡ 4 * length ns
numbers_size [] = omega arith
numbers_size (n ∷ ns) = omega (arith, length-append (number n) (flat_map number ns), length-number n, numbers_size ns)

bitmap_size : {C : Type 0} (bytes : C → List ℕ) (eq : C → C → Bool) (xs : List C) (x : C) → IsSmall bytes x → length (bitmap_text bytes eq xs x) ≤ 260 + 8 * stands eq xs x
bitmap_size bytes eq xs x h =
    let ls : List ℕ = bitmap_lengths eq x xs in
    omega (arith, length-append (bytes x ++ number (length ls)) (flat_map number ls), length-append (bytes x) (number (length ls)), length-number (length ls), numbers_size ls, few_lengths false 0 (map (eq x) xs), h)

each_size : {C : Type 0} (bytes : C → List ℕ) (eq : C → C → Bool) (xs ds : List C) → AllByRecursion (IsSmall bytes) ds → length (flat_map (bitmap_text bytes eq xs) ds) ≤ 260 * length ds + 8 * stand_in eq xs ds
each_size bytes eq xs [] h = omega arith
each_size bytes eq xs (d ∷ ds) h = omega (arith, length-append (bitmap_text bytes eq xs d) (flat_map (bitmap_text bytes eq xs) ds), bitmap_size bytes eq xs d h.0, each_size bytes eq xs ds h.1)

placed_size : {C : Type 0} (o : Ordering) (x y : C) (ys deeper : List C) → length deeper ≤ length ys + 1 → length (place_value o x y ys deeper) ≤ length ys + 2
placed_size Less x y ys deeper h = omega arith
placed_size Equal x y ys deeper h = omega arith
placed_size Greater x y ys deeper h = omega arith

inserted_size : {C : Type 0} (cmp : C → C → Ordering) (x : C) (ys : List C) → length (insert_value cmp x ys) ≤ length ys + 1
inserted_size cmp x [] = omega arith
inserted_size cmp x (y ∷ ys) = omega (arith, placed_size (cmp x y) x y ys (insert_value cmp x ys) (inserted_size cmp x ys))

distinct_size : {C : Type 0} (cmp : C → C → Ordering) (xs : List C) → length (distinct_values cmp xs) ≤ length xs
distinct_size cmp [] = omega arith
distinct_size cmp (x ∷ xs) = omega (arith, inserted_size cmp x (distinct_values cmp xs), distinct_size cmp xs)

pub bitmaps_size : {C : Type 0} (bytes : C → List ℕ) (eq : C → C → Bool) (t : IsTest eq) (cmp : C → C → Ordering) (o : IsTotalOrder cmp) (ties : (x y : C) → eq x y ≡ is_eq (cmp x y)) (xs : List C) → AllByRecursion (IsSmall bytes) xs → length (bitmaps_text bytes eq cmp xs) ≤ 268 * length xs
bitmaps_size bytes eq t cmp o ties xs h =
    omega (arith, each_size bytes eq xs (distinct_values cmp xs) (holds_distinct (IsSmall bytes) cmp xs h), distinct_size cmp xs, all_named eq t cmp o ties xs)
