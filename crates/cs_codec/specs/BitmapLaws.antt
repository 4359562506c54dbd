-- No two lists have the same body under bitmaps.
use Rattle.std.proofs.Common.{◌≡◌, ℕ, zero, suc, ◌+◌, ◌-◌, ◌^◌, ◌<◌, ◌≤◌, Bool, true, false, List, [], ◌∷◌, ◌++◌, length, get_or, map, replicate, refl, sym, ap, subst, ◌∙◌, append_assoc, arith, inl, inr, ◌⊎◌}
use Rattle.std.specs.Prelude.{flat_map}
use Rattle.std.specs.List.{AllByRecursion}
use Rattle.std.specs.declared.cmp.Ordering.{Ordering}
use Rattle.std.specs.declared.cmp.Ordering.TheVariants.{Less, Equal, Greater}
use Rattle.std.proofs.lemmas.Bool.{cases_lt}
use Rattle.std.proofs.lemmas.List.{append-nil, length-append, length-map, get_or-map, get_or_past, get_or_append_left, get_or-append_right, same_lists}
use Rattle.cs_codec.specs.Cells.{number, BeginsOne}
use Rattle.cs_codec.specs.Encodings.{HasOneText, IsShort}
use Rattle.std.specs.Ordering.{is_eq}
use Rattle.cs_codec.specs.CellLaws.{number_begins_one, length-number}
use Rattle.cs_codec.specs.Cells.{IsTest}
use Rattle.cs_codec.specs.Texts.{insert_value, place_value, distinct_values, run_lengths, bitmap_lengths, bitmap_text, bitmaps_text}
use Rattle.cs_codec.specs.Bitmaps.{bits_from, AreNumbers}

-- the bits are those of the lengths, followed by some zeros
pub record Decodes (b : Bool) (lengths : List ℕ) (bits : List Bool) : Type 0 where
  pub zeros : ℕ
  pub bits_are : bits_from b lengths ++ replicate zeros false ≡ bits

one_more_bit : (b : Bool) (n : ℕ) (bits : List Bool) → replicate (suc n) b ++ bits ≡ replicate n b ++ b ∷ bits
one_more_bit b zero bits = refl
one_more_bit b (suc n) bits = ap (λ (t : List Bool). b ∷ t) (one_more_bit b n bits)

pub lengths_decode : (b : Bool) (n : ℕ) (bits : List Bool) → Decodes b (run_lengths b n bits) (replicate n b ++ bits)
lengths_decode true n [] = record { zeros = 0; bits_are = append-nil (replicate n true ++ []) }
lengths_decode false n [] = record { zeros = n; bits_are = sym (append-nil (replicate n false)) }
lengths_decode true n (true ∷ bits) =
    let d = lengths_decode true (suc n) bits in
    record { zeros = d.zeros; bits_are = d.bits_are ∙ one_more_bit true n bits }
lengths_decode false n (false ∷ bits) =
    let d = lengths_decode false (suc n) bits in
    record { zeros = d.zeros; bits_are = d.bits_are ∙ one_more_bit false n bits }
lengths_decode true n (false ∷ bits) =
    let d = lengths_decode false 1 bits in
    record { zeros = d.zeros; bits_are = append_assoc (replicate n true) (bits_from false (run_lengths false 1 bits)) (replicate d.zeros false) ∙ ap (λ (t : List Bool). replicate n true ++ t) d.bits_are }
lengths_decode false n (true ∷ bits) =
    let d = lengths_decode true 1 bits in
    record { zeros = d.zeros; bits_are = append_assoc (replicate n false) (bits_from true (run_lengths true 1 bits)) (replicate d.zeros false) ∙ ap (λ (t : List Bool). replicate n false ++ t) d.bits_are }

zeros_after : (bits : List Bool) (zeros i : ℕ) → get_or (bits ++ replicate zeros false) i false ≡ get_or bits i false
zeros_after bits zeros i =
    elim (cases_lt i (length bits)) [
      | inl lt ↦ get_or_append_left bits (replicate zeros false) false i lt
      | inr ge ↦ get_or-append_right bits (replicate zeros false) (length bits) i false refl ge ∙ all_zero zeros (i - length bits) ∙ sym (get_or_past bits i false ge)
    ]
  where
    all_zero : (n k : ℕ) → get_or (replicate n false) k false ≡ false
    all_zero zero k = refl
    all_zero (suc n) zero = refl
    all_zero (suc n) (suc k) = all_zero n k

-- the bit at an index says whether the value is there
pub bit_at : {C : Type 0} (eq : C → C → Bool) (x : C) (xs : List C) (i : ℕ) → get_or (map (eq x) xs) i false ≡ get_or (bits_from false (bitmap_lengths eq x xs)) i false
bit_at eq x xs i =
    let d = lengths_decode false 0 (map (eq x) xs) in
    ap (λ (t : List Bool). get_or t i false) (sym d.bits_are) ∙ zeros_after (bits_from false (bitmap_lengths eq x xs)) d.zeros i

-- some value of the list equals x
abbrev pub Among : {C : Type 0} → (C → C → Bool) → C → List C → Type 0
Among eq x [] = ⊥
Among eq x (y ∷ ys) = (eq x y ≡ true) ⊎ Among eq x ys

among_placed : {C : Type 0} (eq : C → C → Bool) (t : IsTest eq) (o : Ordering) (x y : C) (ys deeper : List C) → (o ≡ Equal → eq x y ≡ true) → Among eq x deeper → Among eq x (place_value o x y ys deeper)
among_placed eq t Less x y ys deeper h d = inl (t.itself x)
among_placed eq t Equal x y ys deeper h d = inl (h refl)
among_placed eq t Greater x y ys deeper h d = inr d

among_inserted : {C : Type 0} (eq : C → C → Bool) (t : IsTest eq) (cmp : C → C → Ordering) (ties : (x y : C) → cmp x y ≡ Equal → eq x y ≡ true) (x : C) (ys : List C) → Among eq x (insert_value cmp x ys)
among_inserted eq t cmp ties x [] = inl (t.itself x)
among_inserted eq t cmp ties x (y ∷ ys) = among_placed eq t (cmp x y) x y ys (insert_value cmp x ys) (ties x y) (among_inserted eq t cmp ties x ys)

stays_placed : {C : Type 0} (eq : C → C → Bool) (o : Ordering) (x y z : C) (ys deeper : List C) → (Among eq z ys → Among eq z deeper) → Among eq z (y ∷ ys) → Among eq z (place_value o x y ys deeper)
stays_placed eq Less x y z ys deeper h m = inr m
stays_placed eq Equal x y z ys deeper h m = m
stays_placed eq Greater x y z ys deeper h (inl e) = inl e
stays_placed eq Greater x y z ys deeper h (inr m) = inr (h m)

stays_inserted : {C : Type 0} (eq : C → C → Bool) (cmp : C → C → Ordering) (x z : C) (ys : List C) → Among eq z ys → Among eq z (insert_value cmp x ys)
stays_inserted eq cmp x z [] m = absurd m
stays_inserted eq cmp x z (y ∷ ys) m = stays_placed eq (cmp x y) x y z ys (insert_value cmp x ys) (stays_inserted eq cmp x z ys) m

pub among_distinct : {C : Type 0} (eq : C → C → Bool) (t : IsTest eq) (cmp : C → C → Ordering) (ties : (x y : C) → cmp x y ≡ Equal → eq x y ≡ true) (xs : List C) (i : ℕ) (d : C) → i < length xs → Among eq (get_or xs i d) (distinct_values cmp xs)
among_distinct eq t cmp ties [] i d lt = absurd (omega arith)
among_distinct eq t cmp ties (x ∷ xs) zero d lt = among_inserted eq t cmp ties x (distinct_values cmp xs)
among_distinct eq t cmp ties (x ∷ xs) (suc i) d lt = stays_inserted eq cmp x (get_or xs i d) (distinct_values cmp xs) (among_distinct eq t cmp ties xs i d (omega arith))

holds_placed : {C : Type 0} (P : C → Type 0) (o : Ordering) (x y : C) (ys deeper : List C) → P x → AllByRecursion P (y ∷ ys) → AllByRecursion P deeper → AllByRecursion P (place_value o x y ys deeper)
holds_placed P Less x y ys deeper h hs d = (h, hs)
holds_placed P Equal x y ys deeper h hs d = hs
holds_placed P Greater x y ys deeper h hs d = (hs.0, d)

holds_inserted : {C : Type 0} (P : C → Type 0) (cmp : C → C → Ordering) (x : C) (ys : List C) → P x → AllByRecursion P ys → AllByRecursion P (insert_value cmp x ys)
holds_inserted P cmp x [] h hs = (h, tt)
holds_inserted P cmp x (y ∷ ys) h hs = holds_placed P (cmp x y) x y ys (insert_value cmp x ys) h hs (holds_inserted P cmp x ys h hs.1)

pub holds_distinct : {C : Type 0} (P : C → Type 0) (cmp : C → C → Ordering) (xs : List C) → AllByRecursion P xs → AllByRecursion P (distinct_values cmp xs)
holds_distinct P cmp [] h = tt
holds_distinct P cmp (x ∷ xs) h = holds_inserted P cmp x (distinct_values cmp xs) h.0 (holds_distinct P cmp xs h.1)

same_numbers : (ms ns : List ℕ) (x y : List ℕ) → length ms ≡ length ns → AreNumbers ms → AreNumbers ns → flat_map number ms ++ x ≡ flat_map number ns ++ y → (ms ≡ ns) × (x ≡ y)
same_numbers [] [] x y l hm hn e = (refl, e)
same_numbers [] (n ∷ ns) x y l hm hn e = absurd cc
same_numbers (m ∷ ms) [] x y l hm hn e = absurd cc
same_numbers (m ∷ ms) (n ∷ ns) x y l hm hn e =
    let lens : length ms ≡ length ns = omega arith in
    let first = number_begins_one m n (flat_map number ms ++ x) (flat_map number ns ++ y) hm.0 hn.0 (sym (append_assoc (number m) (flat_map number ms) x) ∙ e ∙ append_assoc (number n) (flat_map number ns) y) in
    let deeper = same_numbers ms ns x y lens hm.1 hn.1 first.1 in
    (ap (λ (k : ℕ). k ∷ ms) first.0 ∙ ap (λ (ks : List ℕ). n ∷ ks) deeper.0, deeper.1)

pub length-run_lengths : (b : Bool) (n : ℕ) (bits : List Bool) → length (run_lengths b n bits) ≤ length bits + 1
length-run_lengths true n [] = omega arith
length-run_lengths false n [] = omega arith
length-run_lengths true n (true ∷ bits) = omega (arith, length-run_lengths true (suc n) bits)
length-run_lengths true n (false ∷ bits) = omega (arith, length-run_lengths false 1 bits)
length-run_lengths false n (true ∷ bits) = omega (arith, length-run_lengths true 1 bits)
length-run_lengths false n (false ∷ bits) = omega (arith, length-run_lengths false (suc n) bits)

lengths_fit : (b : Bool) (n : ℕ) (bits : List Bool) → n + length bits < 2 ^ 32 → AreNumbers (run_lengths b n bits)
lengths_fit true n [] h = (omega arith, tt)
lengths_fit false n [] h = tt
lengths_fit true n (true ∷ bits) h = lengths_fit true (suc n) bits (omega arith)
lengths_fit true n (false ∷ bits) h = (omega arith, lengths_fit false 1 bits (omega arith))
lengths_fit false n (true ∷ bits) h = (omega arith, lengths_fit true 1 bits (omega arith))
lengths_fit false n (false ∷ bits) h = lengths_fit false (suc n) bits (omega arith)

pub bitmap_lengths_fit : {C : Type 0} (eq : C → C → Bool) (x : C) (xs : List C) → length xs ≤ 1048576 → AreNumbers (bitmap_lengths eq x xs)
bitmap_lengths_fit eq x xs h = lengths_fit false 0 (map (eq x) xs) (omega (arith, length-map xs (eq x)))

pub bitmap_count_fits : {C : Type 0} (eq : C → C → Bool) (x : C) (xs : List C) → length xs ≤ 1048576 → length (bitmap_lengths eq x xs) < 2 ^ 32
bitmap_count_fits eq x xs h = omega (arith, length-run_lengths false 0 (map (eq x) xs), length-map xs (eq x))

-- each of these values has the same bitmap in both lists
abbrev SameBitmaps : {C : Type 0} → (C → C → Bool) → List C → List C → List C → Type 0
SameBitmaps eq xs ys values = AllByRecursion (λ x. bitmap_lengths eq x xs ≡ bitmap_lengths eq x ys) values

pub no_bitmap : {C : Type 0} (bytes : C → List ℕ) (eq : C → C → Bool) (xs : List C) (x : C) (w : List ℕ) → [] ≡ bitmap_text bytes eq xs x ++ w → ⊥
no_bitmap bytes eq xs x w e =
    let ls = bitmap_lengths eq x xs in
    let lens : length {A = ℕ} [] ≡ length (bitmap_text bytes eq xs x ++ w) = ap length e in
    omega (arith, length-append (bitmap_text bytes eq xs x) w, length-append (bytes x ++ number (length ls)) (flat_map number ls), length-append (bytes x) (number (length ls)), length-number (length ls))

same_bitmaps : {C : Type 0} (bytes : C → List ℕ) (is_cell : C → Type 0) (eq : C → C → Bool) (one : BeginsOne bytes is_cell) (xs ys : List C) → length xs ≤ 1048576 → length ys ≤ 1048576 → (ds es : List C) → AllByRecursion is_cell ds → AllByRecursion is_cell es → flat_map (bitmap_text bytes eq xs) ds ≡ flat_map (bitmap_text bytes eq ys) es → (ds ≡ es) × SameBitmaps eq xs ys ds
same_bitmaps bytes is_cell eq one xs ys lx ly [] [] hd he e = (refl, tt)
same_bitmaps bytes is_cell eq one xs ys lx ly [] (y ∷ es) hd he e = absurd (no_bitmap bytes eq ys y (flat_map (bitmap_text bytes eq ys) es) e)
same_bitmaps bytes is_cell eq one xs ys lx ly (x ∷ ds) [] hd he e = absurd (no_bitmap bytes eq xs x (flat_map (bitmap_text bytes eq xs) ds) (sym e))
same_bitmaps {C} bytes is_cell eq one xs ys lx ly (x ∷ ds) (y ∷ es) hd he e =
    let ms = bitmap_lengths eq x xs in
    let ns = bitmap_lengths eq y ys in
    let v = flat_map (bitmap_text bytes eq xs) ds in
    let w = flat_map (bitmap_text bytes eq ys) es in
    let regroup : (a b c d : List ℕ) → (a ++ b ++ c) ++ d ≡ a ++ (b ++ (c ++ d)) = λ a b c d. simp append_assoc in
    let values = one x y (number (length ms) ++ (flat_map number ms ++ v)) (number (length ns) ++ (flat_map number ns ++ w)) hd.0 he.0 (sym (regroup (bytes x) (number (length ms)) (flat_map number ms) v) ∙ e ∙ regroup (bytes y) (number (length ns)) (flat_map number ns) w) in
    let counts = number_begins_one (length ms) (length ns) (flat_map number ms ++ v) (flat_map number ns ++ w) (bitmap_count_fits eq x xs lx) (bitmap_count_fits eq y ys ly) values.1 in
    let lens = same_numbers ms ns v w counts.0 (bitmap_lengths_fit eq x xs lx) (bitmap_lengths_fit eq y ys ly) counts.1 in
    let deeper = same_bitmaps bytes is_cell eq one xs ys lx ly ds es hd.1 he.1 lens.1 in
    (ap (λ (z : C). z ∷ ds) values.0 ∙ ap (λ (zs : List C). y ∷ zs) deeper.0, (lens.0 ∙ ap (λ (z : C). bitmap_lengths eq z ys) (sym values.0), deeper.1))

same_among : {C : Type 0} (eq : C → C → Bool) (t : IsTest eq) (xs ys values : List C) (x : C) → SameBitmaps eq xs ys values → Among eq x values → bitmap_lengths eq x xs ≡ bitmap_lengths eq x ys
same_among eq t xs ys [] x h m = absurd m
same_among {C} eq t xs ys (y ∷ values) x h (inl e) = subst (λ (z : C). bitmap_lengths eq z xs ≡ bitmap_lengths eq z ys) (sym (t.exact x y e)) h.0
same_among eq t xs ys (y ∷ values) x h (inr m) = same_among eq t xs ys values x h.1 m

true≢false : (b : Bool) → b ≡ true → b ≡ false → ⊥
true≢false b e f = absurd cc

-- a value of the first list is at the same index of the second
stands_there : {C : Type 0} (eq : C → C → Bool) (t : IsTest eq) (xs ys : List C) (i : ℕ) (d : C) → i < length xs → bitmap_lengths eq (get_or xs i d) xs ≡ bitmap_lengths eq (get_or xs i d) ys → (i < length ys) × (get_or xs i d ≡ get_or ys i d)
stands_there {C} eq t xs ys i d lt same =
    let x = get_or xs i d in
    let here : get_or (map (eq x) xs) i false ≡ true = get_or-map (eq x) xs i d false lt ∙ t.itself x in
    let there : get_or (map (eq x) ys) i false ≡ true = bit_at eq x ys i ∙ ap (λ (ls : List ℕ). get_or (bits_from false ls) i false) (sym same) ∙ sym (bit_at eq x xs i) ∙ here in
    elim (cases_lt i (length ys)) [
      | inl ly ↦ (ly, t.exact x (get_or ys i d) (sym (get_or-map (eq x) ys i d false ly) ∙ there))
      | inr ge ↦ absurd (true≢false (get_or (map (eq x) ys) i false) there (get_or_past (map (eq x) ys) i false (omega (arith, length-map ys (eq x)))))
    ]

not_shorter : (m n : ℕ) → ((i : ℕ) → i < m → i < n) → m ≤ n
not_shorter m n h = elim (cases_lt n m) [ inl lt ↦ absurd (omega (arith, h n lt)) | inr ge ↦ ge ]

pub bitmaps_one_list : {C : Type 0} (bytes : C → List ℕ) (is_cell : C → Type 0) (eq : C → C → Bool) (t : IsTest eq) (cmp : C → C → Ordering) (ties : (x y : C) → cmp x y ≡ Equal → eq x y ≡ true) (one : BeginsOne bytes is_cell) (x y : List C) → length x ≤ 1048576 → length y ≤ 1048576 → AllByRecursion is_cell x → AllByRecursion is_cell y → bitmaps_text bytes eq cmp x ≡ bitmaps_text bytes eq cmp y → x ≡ y
bitmaps_one_list {C} bytes is_cell eq t cmp ties one x y lx ly hx hy e =
    let ds = distinct_values cmp x in
    let es = distinct_values cmp y in
    let both = same_bitmaps bytes is_cell eq one x y lx ly ds es (holds_distinct is_cell cmp x hx) (holds_distinct is_cell cmp y hy) e in
    let forth : (i : ℕ) (d : C) → i < length x → (i < length y) × (get_or x i d ≡ get_or y i d) = λ i d lt. stands_there eq t x y i d lt (same_among eq t x y ds (get_or x i d) both.1 (among_distinct eq t cmp ties x i d lt)) in
    let back : (i : ℕ) (d : C) → i < length y → (i < length x) × (get_or y i d ≡ get_or x i d) = λ i d lt. stands_there eq t y x i d lt (sym (same_among eq t x y ds (get_or y i d) both.1 (subst (λ (z : List C). Among eq (get_or y i d) z) (sym both.0) (among_distinct eq t cmp ties y i d lt)))) in
    finish x y forth back
  where
    finish : (a b : List C) → ((i : ℕ) (d : C) → i < length a → (i < length b) × (get_or a i d ≡ get_or b i d)) → ((i : ℕ) (d : C) → i < length b → (i < length a) × (get_or b i d ≡ get_or a i d)) → a ≡ b
    finish [] [] f g = refl
    finish [] (c ∷ b) f g = absurd (omega (arith, (g 0 c (omega arith)).0))
    finish (c ∷ a) [] f g = absurd (omega (arith, (f 0 c (omega arith)).0))
    finish (c ∷ a) (d ∷ b) f g =
        let lens : length (c ∷ a) ≡ length (d ∷ b) = omega (arith, not_shorter (length (c ∷ a)) (length (d ∷ b)) (λ i lt. (f i c lt).0), not_shorter (length (d ∷ b)) (length (c ∷ a)) (λ i lt. (g i c lt).0)) in
        same_lists (c ∷ a) (d ∷ b) lens (λ k z lt. (f k z lt).1)

pub bitmaps_have_one_list : {C : Type 0} (bytes : C → List ℕ) (is_cell : C → Type 0) (eq : C → C → Bool) (cmp : C → C → Ordering) (t : IsTest eq) (ties : (x y : C) → eq x y ≡ is_eq (cmp x y)) (one : BeginsOne bytes is_cell) → HasOneText (bitmaps_text bytes eq cmp) IsShort is_cell
bitmaps_have_one_list bytes is_cell eq cmp t ties one x y fx fy hx hy e =
    bitmaps_one_list bytes is_cell eq t cmp (λ a b h. ties a b ∙ ap is_eq h) one x y fx fy hx hy e
