-- Reading numbers and cells from bytes.
use Rattle.std.proofs.Common.{◌≡◌, ℕ, ◌+◌, ◌^◌, ◌<◌, ◌≤◌, List, ◌++◌, length, get_or, take, drop, refl, sym, ap, subst, ◌∙◌, arith, rules, inl, inr, ℤ}
use Rattle.std.specs.Prelude.{Option, Some, None, IfSome, IfNone, MatchOption}
use Rattle.std.specs.Int.{w32, w64, from_be_bytes, to_be_bytes, cast_unsigned, cast_signed}
use Rattle.std.proofs.lemmas.Bool.{cases_lt}
use Rattle.std.proofs.lemmas.Int.{to_z-of_z, of_z-to_z, ints}
use Rattle.std.proofs.lemmas.List.{take-append-drop, drop-drop, length-append, length-take, length-drop, get_or-drop, get_or-take, get_or_past}
use Rattle.std.proofs.lemmas.Nat.{be_bytes_4, be_bytes_8}
use Rattle.cs_codec.specs.Cells.{number, int_cell, IsInt, NumberStandsAt, StandsAt, NoneStandsAt}
use Rattle.cs_codec.specs.CellLaws.{length-int_cell, length-number}

abbrev pub IsBytes : List ℕ → Type 0
IsBytes text = (i : ℕ) → get_or text i 0 < 256

pub IsBytes-part : (start n : ℕ) (text : List ℕ) → IsBytes text → IsBytes (take n (drop start text))
IsBytes-part start n text h i =
    elim (cases_lt i n) [
      | inl lt ↦ rw (get_or-take n (drop start text) i 0 lt, get_or-drop start text i 0) (h (start + i))
      | inr le ↦ rw (get_or_past (take n (drop start text)) i 0 (omega (arith, length-take n (drop start text)))) (omega arith)
    ]

part_of : (start n : ℕ) (text : List ℕ) → drop start text ≡ take n (drop start text) ++ drop (start + n) text
part_of start n text = sym (take-append-drop n (drop start text)) ∙ ap (λ (t : List ℕ). take n (drop start text) ++ t) (drop-drop n start text)

pub number_stands : (text : List ℕ) (start n : ℕ) → IsBytes text → start + 4 ≤ length text → n ≡ from_be_bytes w32 (take 4 (drop start text)) → NumberStandsAt text start n
unfolding number
number_stands text start n fits within e =
    let part = take 4 (drop start text) in
    let part_fits : IsBytes (take 4 (drop start text)) = IsBytes-part start 4 text fits in
    let len : length (take 4 (drop start text)) ≡ 4 = omega (arith, length-take 4 (drop start text), length-drop start text) in
    let back : to_be_bytes w32 n ≡ take 4 (drop start text) = be_bytes_4 (take 4 (drop start text)) n len part_fits e in
    record {
      parts = part_of start 4 text ∙ ap (λ (t : List ℕ). t ++ drop (start + 4) text) (sym back);
      within = within;
      fits = rw e (omega (arith, part_fits 0, part_fits 1, part_fits 2, part_fits 3));
    }

abbrev NumberRead : (k : ℕ) → (List ℕ → ℕ) → List ℕ → ℕ → Option ℕ → Type 0
NumberRead k value text start r = MatchOption r (length text < start + k) (λ n. (start + k ≤ length text) × (n ≡ value (take k (drop start text))))

pub number_found : (r : Option ℕ) (text : List ℕ) (start : ℕ) → IsBytes text → NumberRead 4 (from_be_bytes w32) text start r → IfSome r (NumberStandsAt text start)
number_found None text start fits h = tt
number_found (Some n) text start fits h = number_stands text start n fits h.0 h.1

pub number_none : (r : Option ℕ) (text : List ℕ) (start : ℕ) → NumberRead 4 (from_be_bytes w32) text start r → IfNone r ((n : ℕ) (rest : List ℕ) → drop start text ≡ number n ++ rest → ⊥)
number_none None text start h = λ n rest e.
    let lens : length (drop start text) ≡ length (number n ++ rest) = ap length e in
    omega (arith, length-append (number n) rest, length-number n, length-drop start text)
number_none (Some n) text start h = tt

pub int_none : (text : List ℕ) (start : ℕ) → length text < start + 8 → NoneStandsAt int_cell IsInt text start
int_none text start h = λ z rest _ e.
    let lens : length (drop start text) ≡ length (int_cell z ++ rest) = ap length e in
    omega (arith, length-append (int_cell z) rest, length-int_cell z, length-drop start text)

pub int_stands : (text : List ℕ) (start n : ℕ) → IsBytes text → start + 8 ≤ length text → n ≡ from_be_bytes w64 (take 8 (drop start text)) → StandsAt int_cell IsInt text start (cast_signed w64 n) (start + 8)
unfolding int_cell
int_stands text start n fits within e =
    let part_fits : IsBytes (take 8 (drop start text)) = IsBytes-part start 8 text fits in
    let len : length (take 8 (drop start text)) ≡ 8 = omega (arith, length-take 8 (drop start text), length-drop start text) in
    let small : n < 2 ^ 64 = rw e (omega (arith, part_fits 0, part_fits 1, part_fits 2, part_fits 3, part_fits 4, part_fits 5, part_fits 6, part_fits 7)) in
    let back : to_be_bytes w64 n ≡ take 8 (drop start text) = be_bytes_8 (take 8 (drop start text)) n len part_fits e in
    let bits : to_be_bytes w64 (cast_unsigned w64 (cast_signed w64 n)) ≡ take 8 (drop start text) = ap (to_be_bytes w64) (of_z-to_z w64 n small) ∙ back in
    record {
      holds = search (rules, ints);
      parts = part_of start 8 text ∙ ap (λ (t : List ℕ). t ++ drop (start + 8) text) (sym bits);
      end_is = refl;
      within = within;
    }

pub int_cell_is : (z : ℤ) (bits : ℕ) → IsInt z → bits ≡ cast_unsigned w64 (cast_signed w64 (cast_unsigned w64 z)) → to_be_bytes w64 bits ≡ int_cell z
unfolding int_cell
int_cell_is z bits h e = ap (to_be_bytes w64) (e ∙ ap (cast_unsigned w64) (to_z-of_z w64 z h))

pub int_stands_as : (text : List ℕ) (start n : ℕ) (z : ℤ) → IsBytes text → IsInt z → start + 8 ≤ length text → n ≡ from_be_bytes w64 (take 8 (drop start text)) → z ≡ cast_signed w64 n → StandsAt int_cell IsInt text start (cast_signed w64 (cast_unsigned w64 z)) (start + 8)
int_stands_as text start n z fits h within e s =
    subst (λ (y : ℤ). StandsAt int_cell IsInt text start y (start + 8)) (sym (to_z-of_z w64 z h ∙ s)) (int_stands text start n fits within e)
