-- The body of a column under each of the four codes (C-Store, VLDB 2005), by positions.
-- `bytes` gives a cell's bytes, `eq` says whether two cells are equal, and `cmp` is their order.
use Rattle.std.specs.Prelude.{ℕ, zero, suc, ◌+◌, ◌/◌, ◌%◌, Bool, true, false, not, if◌then◌else◌, ◌==◌, nat_lt, List, [], ◌∷◌, ◌++◌, length, map, flat_map, Option, Some, None, ℤ, pos, ◌-ℤ◌, ◌≤ℤ◌}
use Rattle.std.specs.Int.RustNames.{unsigned_abs}
use Rattle.std.specs.declared.cmp.Ordering.{Ordering}
use Rattle.std.specs.declared.cmp.Ordering.TheVariants.{Less, Equal, Greater}
use Rattle.cs_codec.specs.Cells.{number, int_cell}

-- ---- plain

-- the cells, one after the other
abbrev pub plain_text : {C : Type 0} → (C → List ℕ) → List C → List ℕ
plain_text bytes [] = []
plain_text bytes (x ∷ xs) = bytes x ++ plain_text bytes xs

-- ---- runs: one for each position whose value differs from the one before it

-- whether the value differs from the one before it; at the first position there is none
abbrev pub differs : {C : Type 0} → (C → C → Bool) → Option C → C → Bool
differs eq None x = true
differs eq (Some before) x = not (eq before x)

-- how many positions, from the first of the list on, continue a run with this value
abbrev pub kept : {C : Type 0} → (C → C → Bool) → C → List C → ℕ
kept eq before [] = 0
kept eq before (x ∷ xs) = if eq before x then suc (kept eq x xs) else 0

-- the bytes of the positions from p on, if `before` is the value of the position before
abbrev pub runs_text_from : {C : Type 0} → (C → List ℕ) → (C → C → Bool) → Option C → ℕ → List C → List ℕ
runs_text_from bytes eq before p [] = []
runs_text_from bytes eq before p (x ∷ xs) = (if differs eq before x then bytes x ++ number p ++ number (suc (kept eq x xs)) else []) ++ runs_text_from bytes eq (Some x) (suc p) xs

abbrev pub runs_text : {C : Type 0} → (C → List ℕ) → (C → C → Bool) → List C → List ℕ
runs_text bytes eq xs = runs_text_from bytes eq None 1 xs

-- ---- differences: positions 1, 129, 257, .. in full, the others as the difference to the value before

-- a number in at most k + 1 groups of seven bits, the low group first, the high bit set on all but the last (LEB128)
abbrev pub groups : ℕ → ℕ → List ℕ
groups zero n = n ∷ []
groups (suc k) n = if nat_lt n 128 then n ∷ [] else (n % 128 + 128) ∷ groups k (n / 128)

-- a number below 2 ^ 64, in the shortest form
unfoldable pub short : ℕ → List ℕ
short n = groups 9 n

abbrev pub differences_text_from : ℤ → ℕ → List ℤ → List ℕ
differences_text_from before p [] = []
differences_text_from before p (x ∷ xs) = (if p % 128 == 1 then number p ++ int_cell x else short (unsigned_abs (x -ℤ before))) ++ differences_text_from x (suc p) xs

-- the first position is in full, so the value before it has no effect
abbrev pub differences_text : List ℤ → List ℕ
differences_text xs = differences_text_from (pos 0) 1 xs

-- no value is below the one before it
abbrev pub NeverFallsFrom : ℤ → List ℤ → Type 0
NeverFallsFrom before [] = Unit {0}
NeverFallsFrom before (x ∷ xs) = (before ≤ℤ x) × NeverFallsFrom x xs

abbrev pub NeverFalls : List ℤ → Type 0
NeverFalls [] = Unit {0}
NeverFalls (x ∷ xs) = NeverFallsFrom x xs

-- ---- bitmaps: the positions of each distinct value, ascending by value

-- x and the values y ∷ ys in order; `deeper` is ys with x
abbrev pub place_value : {C : Type 0} → Ordering → C → C → List C → List C → List C
place_value Less x y ys deeper = x ∷ y ∷ ys
place_value Equal x y ys deeper = y ∷ ys
place_value Greater x y ys deeper = y ∷ deeper

-- ascending values with one more, unless it is among them
abbrev pub insert_value : {C : Type 0} → (C → C → Ordering) → C → List C → List C
insert_value cmp x [] = x ∷ []
insert_value cmp x (y ∷ ys) = place_value (cmp x y) x y ys (insert_value cmp x ys)

-- the distinct values, ascending
abbrev pub distinct_values : {C : Type 0} → (C → C → Ordering) → List C → List C
distinct_values cmp [] = []
distinct_values cmp (x ∷ xs) = insert_value cmp x (distinct_values cmp xs)

-- the lengths of the maximal runs of equal bits, the first of which has n bits already; trailing zeros are omitted
abbrev pub run_lengths : Bool → ℕ → List Bool → List ℕ
run_lengths true n [] = n ∷ []
run_lengths false n [] = []
run_lengths true n (true ∷ bits) = run_lengths true (suc n) bits
run_lengths true n (false ∷ bits) = n ∷ run_lengths false 1 bits
run_lengths false n (true ∷ bits) = n ∷ run_lengths true 1 bits
run_lengths false n (false ∷ bits) = run_lengths false (suc n) bits

-- the run lengths of the bitmap of a value, zeros first
abbrev pub bitmap_lengths : {C : Type 0} → (C → C → Bool) → C → List C → List ℕ
bitmap_lengths eq x xs = run_lengths false 0 (map (eq x) xs)

abbrev pub bitmap_text : {C : Type 0} → (C → List ℕ) → (C → C → Bool) → List C → C → List ℕ
bitmap_text bytes eq xs x = bytes x ++ number (length (bitmap_lengths eq x xs)) ++ flat_map number (bitmap_lengths eq x xs)

abbrev pub bitmaps_text : {C : Type 0} → (C → List ℕ) → (C → C → Bool) → (C → C → Ordering) → List C → List ℕ
bitmaps_text bytes eq cmp xs = flat_map (bitmap_text bytes eq xs) (distinct_values cmp xs)
