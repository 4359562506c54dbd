-- The bitmaps of a column's values, built from the numbers of its rows.
use Rattle.std.proofs.Common.{◌≡◌, ℕ, zero, suc, ◌+◌, ◌-◌, ◌<◌, ◌≤◌, Bool, true, false, cond, List, [], ◌∷◌, ◌++◌, length, get_or, set, map, take, drop, Some, append_assoc, refl, sym, ap, subst, ◌∙◌, arith, inl, inr, eq-eqb, get_or-set_same, get_or-set_other, length-take}
use Rattle.std.specs.Prelude.{flat_map, slice_get, nat_eq}
use Rattle.std.specs.List.{AllByRecursion}
use Rattle.std.specs.List.Sorted.{IsStrictlySortedBy}
use Rattle.std.specs.Cmp.{IsTotalOrder}
use Rattle.std.specs.Ordering.{is_eq, is_ge}
use Rattle.std.specs.declared.cmp.Ordering.{Ordering}
use Rattle.std.specs.declared.cmp.Ordering.TheVariants.{Less, Equal, Greater}
use Rattle.std.proofs.lemmas.Bool.{cases_lt, cases_eq, ne_eqb}
use Rattle.std.proofs.lemmas.List.{take_more, take_all, flat_map_more, append-nil, append_cancel_left, take-append-drop}
use Rattle.std.proofs.lemmas.Grind.{flat_map-append}
use Rattle.std.proofs.Math.Seq.{drop-cons}
use Rattle.std.proofs.lemmas.Option.{slice_get_within, get_or_from_slice_get, slice_get-get_or, slice_get_cases}
use Rattle.cs_codec.specs.Cells.{IsTest}
use Rattle.cs_codec.specs.Columns.{cells_at}
use Rattle.cs_codec.specs.Texts.{distinct_values, run_lengths, bitmap_lengths, bitmap_text, bitmaps_text}
use Rattle.cs_codec.specs.Bitmaps.{total, glued, entry_text}
use Rattle.cs_codec.specs.BitmapReading.{HaveBitmaps, HaveOnes, HaveText, HaveOtherText, NameValues}
use Rattle.cs_codec.proofs.BitmapCuts.{bitmap_glued}
use Rattle.cs_codec.proofs.BitmapEntries.{there, not_there}
use Rattle.cs_codec.proofs.BitmapKeys.{In, by_test, in_all, not_itself, below_too, same_sorted, sorted_distinct, from_distinct, to_distinct}
use Rattle.cs_codec.proofs.BitmapSteps.{single}
use Rattle.cs_codec.proofs.EntryPainting.{one_cell, among_cells, cells_hold}

-- ---- ascending values

-- values are strictly sorted if each is below the next
pub rises_sorted : {C : Type 0} (cmp : C → C → Ordering) (o : IsTotalOrder cmp) (xs : List C) → ((k : ℕ) (d : C) → suc k < length xs → cmp (get_or xs k d) (get_or xs (suc k) d) ≡ Less) → IsStrictlySortedBy cmp xs
unfolding IsStrictlySortedBy
rises_sorted cmp o [] h = tt
rises_sorted cmp o (x ∷ []) h = (tt, tt)
rises_sorted cmp o (x ∷ y ∷ xs) h =
    let deeper = rises_sorted cmp o (y ∷ xs) (λ k d lt. h (suc k) d (omega arith)) in
    let first = h 0 x (omega arith) in
    ((first, below_too cmp o x y xs first deeper.0), deeper)

all_at : {C : Type 0} (P : C → Type 0) (xs : List C) (k : ℕ) (d : C) → AllByRecursion P xs → k < length xs → P (get_or xs k d)
all_at P [] k d h lt = absurd (omega arith)
all_at P (x ∷ xs) zero d h lt = h.0
all_at P (x ∷ xs) (suc k) d h lt = all_at P xs k d h.1 (omega arith)

pub sorted_at : {C : Type 0} (cmp : C → C → Ordering) (xs : List C) (k m : ℕ) (d : C) → IsStrictlySortedBy cmp xs → k < m → m < length xs → cmp (get_or xs k d) (get_or xs m d) ≡ Less
unfolding IsStrictlySortedBy
sorted_at cmp [] k m d s lt within = absurd (omega arith)
sorted_at cmp (x ∷ xs) k zero d s lt within = absurd (omega arith)
sorted_at cmp (x ∷ xs) zero (suc m) d s lt within = all_at (λ z. cmp x z ≡ Less) xs m d s.0 (omega arith)
sorted_at cmp (x ∷ xs) (suc k) (suc m) d s lt within = sorted_at cmp xs k m d s.1 (omega arith) (omega arith)

-- neighbouring values of a sorted list ascend
pub next_above : {C : Type 0} (cmp : C → C → Ordering) (xs : List C) (at : ℕ) (x y : C) → 1 ≤ at → slice_get xs (at - 1) ≡ Some x → slice_get xs at ≡ Some y → IsStrictlySortedBy cmp xs → cmp x y ≡ Less
next_above {C} cmp xs at x y some here next sorted =
    ap (λ (z : C). cmp z y) (sym (get_or_from_slice_get xs (at - 1) x y here))
    ∙ ap (λ (z : C). cmp (get_or xs (at - 1) y) z) (sym (get_or_from_slice_get xs at y y next))
    ∙ sorted_at cmp xs (at - 1) at y sorted (omega arith) (slice_get_within xs at y next)

-- one more value is above its predecessor
pub rises_more : {C : Type 0} (cmp : C → C → Ordering) (xs : List C) (at : ℕ) (x y : C) → 1 ≤ at → slice_get xs (at - 1) ≡ Some x → slice_get xs at ≡ Some y → cmp x y ≡ Less → ((k : ℕ) (d : C) → suc k < at → cmp (get_or xs k d) (get_or xs (suc k) d) ≡ Less) → (k : ℕ) (d : C) → suc k < at + 1 → cmp (get_or xs k d) (get_or xs (suc k) d) ≡ Less
rises_more {C} cmp xs at x y some here next less so_far k d lt =
    elim (cases_lt (suc k) at) [
      | inl within ↦ so_far k d within
      | inr last ↦
          let place : k ≡ at - 1 = omega arith in
          let above : suc k ≡ at = omega arith in
          ap (λ (n : ℕ). cmp (get_or xs n d) (get_or xs (suc k) d)) place
          ∙ ap (λ (n : ℕ). cmp (get_or xs (at - 1) d) (get_or xs n d)) above
          ∙ ap (λ (z : C). cmp z (get_or xs at d)) (get_or_from_slice_get xs (at - 1) x d here)
          ∙ ap (λ (z : C). cmp x z) (get_or_from_slice_get xs at y d next)
          ∙ less
    ]

pub is_less : (found order : Ordering) → found ≡ order → is_ge found ≡ false → order ≡ Less
is_less Less order e f = sym e
is_less Equal order e f = absurd cc
is_less Greater order e f = absurd cc

pub not_less : (found order : Ordering) → found ≡ order → is_ge found ≡ true → order ≡ Less → ⊥
not_less Less order e f less = absurd cc
not_less Equal order e f less = absurd cc
not_less Greater order e f less = absurd cc

-- a strictly sorted list has no value twice
same_place : {C : Type 0} (cmp : C → C → Ordering) (o : IsTotalOrder cmp) (xs : List C) (k m : ℕ) (d : C) → IsStrictlySortedBy cmp xs → k < length xs → m < length xs → get_or xs k d ≡ get_or xs m d → k ≡ m
same_place {C} cmp o xs k m d s here there e =
    elim (cases_lt k m) [
      | inl lt ↦ absurd (not_itself cmp o (get_or xs m d) (subst (λ (z : C). cmp z (get_or xs m d) ≡ Less) e (sorted_at cmp xs k m d s lt there)))
      | inr ge ↦ elim (cases_lt m k) [
        | inl lt ↦ absurd (not_itself cmp o (get_or xs m d) (subst (λ (z : C). cmp (get_or xs m d) z ≡ Less) e (sorted_at cmp xs m k d s lt here)))
        | inr le ↦ omega arith
      ]
    ]

-- ---- the bitmap of a number

-- one more row's number has been added, to the bitmap of that number
pub number_added : (numbers : List ℕ) (i m n place : ℕ) (bitmaps : List (List ℕ)) (old more : List ℕ) → i < length numbers → m ≡ get_or numbers i 0 → m < length bitmaps → place ≡ i → old ≡ bitmap_lengths nat_eq m (take i numbers) → more ≡ glued old (place - total old) (0 ∷ 1 ∷ []) → get_or bitmaps n [] ≡ bitmap_lengths nat_eq n (take i numbers) → get_or (set bitmaps m more) n [] ≡ bitmap_lengths nat_eq n (take (i + 1) numbers)
number_added numbers i m n place bitmaps old more lt read within at here added so_far =
    let front = take i numbers in
    let size : length front ≡ i = omega (arith, length-take i numbers) in
    let longer : (q : ℕ) (b : Bool) → nat_eq q m ≡ b → bitmap_lengths nat_eq q (take (i + 1) numbers) ≡ glued (bitmap_lengths nat_eq q front) (length front - total (bitmap_lengths nat_eq q front)) (cond b (0 ∷ 1 ∷ []) []) = λ q b e.
    ap (λ (z : List ℕ). bitmap_lengths nat_eq q z) (take_more numbers i 0 lt)
    ∙ ap (λ (k : ℕ). bitmap_lengths nat_eq q (front ++ k ∷ [])) (sym read)
    ∙ bitmap_glued nat_eq q front (m ∷ [])
    ∙ ap (λ (z : List ℕ). glued (bitmap_lengths nat_eq q front) (length front - total (bitmap_lengths nat_eq q front)) z) (single nat_eq q m b e) in
    elim (cases_eq n m) [
      | inl e ↦
          ap (λ (k : ℕ). get_or (set bitmaps m more) k []) e
          ∙ get_or-set_same bitmaps m more [] within
          ∙ added
          ∙ ap (λ (z : List ℕ). glued z (place - total z) (0 ∷ 1 ∷ [])) here
          ∙ ap (λ (k : ℕ). glued (bitmap_lengths nat_eq m front) (k - total (bitmap_lengths nat_eq m front)) (0 ∷ 1 ∷ [])) (at ∙ sym size)
          ∙ sym (longer m true (eq-eqb m m refl))
          ∙ ap (λ (k : ℕ). bitmap_lengths nat_eq k (take (i + 1) numbers)) (sym e)
      | inr ne ↦
          get_or-set_other bitmaps m n more [] ne
          ∙ so_far
          ∙ sym (longer n false (ne_eqb n m ne))
    ]

-- ---- the bitmap of a value

module _ {C : Type 0} (eq : C → C → Bool) (t : IsTest eq) (cmp : C → C → Ordering) (o : IsTotalOrder cmp) (ties : (x y : C) → eq x y ≡ is_eq (cmp x y)) (values : List C) where
  same_test : (sorted : IsStrictlySortedBy cmp values) (n m : ℕ) (d : C) → n < length values → m < length values → nat_eq n m ≡ eq (get_or values n d) (get_or values m d)
  same_test sorted n m d here there =
      elim (cases_eq n m) [
        | inl e ↦ eq-eqb n m e ∙ sym (t.itself (get_or values n d)) ∙ ap (λ (k : ℕ). eq (get_or values n d) (get_or values k d)) e
        | inr ne ↦ by_test (eq (get_or values n d) (get_or values m d))
            (λ same. absurd (ne (same_place cmp o values n m d sorted here there (t.exact (get_or values n d) (get_or values m d) same))))
            (λ apart. ne_eqb n m ne ∙ sym apart)
      ]

  same_bits : (sorted : IsStrictlySortedBy cmp values) (n : ℕ) (d : C) → n < length values → (numbers : List ℕ) → ((k : ℕ) → k < length numbers → get_or numbers k 0 < length values) → map (nat_eq n) numbers ≡ map (eq (get_or values n d)) (cells_at values numbers)
  same_bits sorted n d here [] below = refl
  same_bits sorted n d here (m ∷ numbers) below =
      let v = get_or values n d in
      let there = below 0 (omega arith) in
      ap (λ (b : Bool). b ∷ map (nat_eq n) numbers) (same_test sorted n m d here there)
      ∙ ap (λ (bs : List Bool). eq v (get_or values m d) ∷ bs) (same_bits sorted n d here numbers (λ k lt. below (suc k) (omega arith)))
      ∙ ap (λ (z : List C). map (eq v) (z ++ cells_at values numbers)) (sym (one_cell values m d there))

  -- the bitmaps of values that occur have ones
  pub ones_there : (bitmaps : List (List ℕ)) (cells : List C) → length bitmaps ≡ length values → HaveBitmaps eq values bitmaps cells → values ≡ distinct_values cmp cells → HaveOnes bitmaps
  ones_there bitmaps cells size have distinct = λ n lt none.
      elim (slice_get_cases values n).1 [
        | inl p ↦
            let among : In p.0 values = subst (λ (z : C). In z values) p.3 (among_cells values n p.0 p.1) in
            not_there eq t p.0 0 cells (sym (have n p.0 p.2) ∙ none) (from_distinct cmp p.0 cells (subst (λ (zs : List C). In p.0 zs) distinct among))
        | inr p ↦ omega (arith, size, lt, p.0)
      ]

  module _ (numbers : List ℕ) (below : NameValues numbers (length values)) (bitmaps : List (List ℕ)) where
    -- the bitmap of a number is that of its value
    pub bitmaps_are : IsStrictlySortedBy cmp values → ((n : ℕ) → n < length values → get_or bitmaps n [] ≡ bitmap_lengths nat_eq n numbers) → HaveBitmaps eq values bitmaps (cells_at values numbers)
    bitmaps_are sorted each = λ n x e.
        let here = slice_get_within values n x e in
        each n here
        ∙ ap (λ (bits : List Bool). run_lengths false 0 bits) (same_bits sorted n x here numbers below)
        ∙ ap (λ (z : C). bitmap_lengths eq z (cells_at values numbers)) (get_or_from_slice_get values n x x e)

    from_cells : (q : C) → In q (cells_at values numbers) → In q values
    from_cells q m = in_all (λ z. In z values) q (cells_at values numbers) (cells_hold (λ z. In z values) values numbers (all_in values (λ z n. n))) m
      where
        all_in : (xs : List C) → ((z : C) → In z xs → In z values) → AllByRecursion (λ z. In z values) xs
        all_in [] f = tt
        all_in (x ∷ xs) f = (f x (inl refl), all_in xs (λ z n. f z (inr n)))

    -- if each value has its bitmap, and all of them have ones, the values are those of the cells
    pub values_distinct : IsStrictlySortedBy cmp values → length bitmaps ≡ length values → HaveBitmaps eq values bitmaps (cells_at values numbers) → HaveOnes bitmaps → values ≡ distinct_values cmp (cells_at values numbers)
    values_distinct sorted size have ones =
        let cells = cells_at values numbers in
        same_sorted cmp o values (distinct_values cmp cells) sorted (sorted_distinct cmp o cells)
        (λ q m. to_distinct cmp (λ x y e. t.exact x y (ties x y ∙ ap is_eq e)) q cells (there eq t q 0 cells (λ none. has_place q values m (λ n lt e. ones n (omega (arith, size)) (have n q e ∙ none)))))
        (λ q m. from_cells q (from_distinct cmp q cells m))
      where
        has_place : {P : Type 0} (q : C) (xs : List C) → In q xs → ((n : ℕ) → n < length xs → slice_get xs n ≡ Some q → P) → P
        has_place q [] m f = absurd m
        has_place q (x ∷ xs) (inl e) f = f 0 (omega arith) (slice_get-get_or (x ∷ xs) 0 q (omega arith) ∙ ap Some (sym e))
        has_place q (x ∷ xs) (inr m) f = has_place q xs m (λ n lt e. f (suc n) (omega arith) (slice_get-get_or (x ∷ xs) (suc n) q (omega arith) ∙ sym (slice_get-get_or xs n q lt) ∙ e))

    -- the bytes of such values and bitmaps are the body of the cells
    pub text_is : (bytes : C → List ℕ) (text : List ℕ) → IsStrictlySortedBy cmp values → length bitmaps ≡ length values → ((n : ℕ) → n < length values → get_or bitmaps n [] ≡ bitmap_lengths nat_eq n numbers) → HaveOnes bitmaps → HaveText bytes eq values bitmaps text → text ≡ bitmaps_text bytes eq cmp (cells_at values numbers)
    text_is bytes text sorted size each ones is =
        let have = bitmaps_are sorted each in
        is (cells_at values numbers) have ∙ ap (λ (vs : List C). flat_map (bitmap_text bytes eq (cells_at values numbers)) vs) (values_distinct sorted size have ones)

    pub other_text : (bytes : C → List ℕ) (text : List ℕ) → IsStrictlySortedBy cmp values → length bitmaps ≡ length values → ((n : ℕ) → n < length values → get_or bitmaps n [] ≡ bitmap_lengths nat_eq n numbers) → (HaveOnes bitmaps → HaveOtherText bytes eq values bitmaps text) → values ≡ distinct_values cmp (cells_at values numbers) → text ≡ bitmaps_text bytes eq cmp (cells_at values numbers) → ⊥
    other_text bytes text sorted size each other distinct is =
        let cells = cells_at values numbers in
        let have = bitmaps_are sorted each in
        other (ones_there bitmaps cells size have distinct) cells have (is ∙ ap (λ (vs : List C). flat_map (bitmap_text bytes eq cells) vs) (sym distinct))

-- ---- entries, one after the other

module _ {C : Type 0} (bytes : C → List ℕ) (eq : C → C → Bool) (values cells : List C) (text left : List ℕ) (i : ℕ) (so_far : text ≡ flat_map (bitmap_text bytes eq cells) (take i values) ++ left) where
  module _ (x : C) (bitmap : List ℕ) (here : slice_get values i ≡ Some x) (ls : bitmap ≡ bitmap_lengths eq x cells) where
    -- one more entry has been compared
    pub entry_more : (rest : List ℕ) → left ≡ entry_text bytes (x, bitmap) ++ rest → text ≡ flat_map (bitmap_text bytes eq cells) (take (i + 1) values) ++ rest
    entry_more rest e =
        let f = bitmap_text bytes eq cells in
        so_far
        ∙ ap (λ (z : List ℕ). flat_map f (take i values) ++ z) (e ∙ ap (λ (z : List ℕ). entry_text bytes (x, z) ++ rest) ls)
        ∙ sym (append_assoc (flat_map f (take i values)) (f x) rest)
        ∙ ap (λ (z : List ℕ). z ++ rest) (flat_map_more f [] (take i values) x)
        ∙ ap (λ (z : C). flat_map f (take i values ++ z ∷ []) ++ rest) (sym (get_or_from_slice_get values i x x here))
        ∙ ap (λ (zs : List C). flat_map f zs ++ rest) (sym (take_more values i x (slice_get_within values i x here)))

    -- if the text is all entries, the next one is at the front of what is left
    pub entry_next : text ≡ flat_map (bitmap_text bytes eq cells) values → left ≡ entry_text bytes (x, bitmap) ++ flat_map (bitmap_text bytes eq cells) (drop (suc i) values)
    entry_next whole =
        let f = bitmap_text bytes eq cells in
        let later : drop i values ≡ x ∷ drop (suc i) values = drop-cons values i x (slice_get_within values i x here) ∙ ap (λ (z : C). z ∷ drop (suc i) values) (get_or_from_slice_get values i x x here) in
        append_cancel_left (flat_map f (take i values)) left (f x ++ flat_map f (drop (suc i) values)) (
        sym so_far
        ∙ whole
        ∙ ap (λ (zs : List C). flat_map f zs) (sym (take-append-drop i values) ∙ ap (λ (zs : List C). take i values ++ zs) later)
        ∙ flat_map-append f (take i values) (x ∷ drop (suc i) values))
        ∙ ap (λ (z : List ℕ). entry_text bytes (x, z) ++ flat_map f (drop (suc i) values)) (sym ls)

  module _ (le : length values ≤ i) where
    all_read : text ≡ flat_map (bitmap_text bytes eq cells) values ++ left
    all_read = so_far ∙ ap (λ (zs : List C). flat_map (bitmap_text bytes eq cells) zs ++ left) (take_all i values le)

    -- nothing is left, so the text is all entries
    pub is_whole : left ≡ [] → text ≡ flat_map (bitmap_text bytes eq cells) values
    is_whole e = all_read ∙ ap (λ (z : List ℕ). flat_map (bitmap_text bytes eq cells) values ++ z) e ∙ append-nil (flat_map (bitmap_text bytes eq cells) values)

    pub none_left : text ≡ flat_map (bitmap_text bytes eq cells) values → left ≡ []
    none_left e = append_cancel_left (flat_map (bitmap_text bytes eq cells) values) left [] (sym all_read ∙ e ∙ sym (append-nil (flat_map (bitmap_text bytes eq cells) values)))
