-- Pairs that are stored as keys and columns.
use Rattle.std.proofs.Common.{◌≡◌, ℕ, zero, suc, ◌+◌, ◌<◌, List, [], ◌∷◌, map, length, get_or, refl, sym, ap, ◌∙◌, arith, pos}
use Rattle.std.specs.List.{AllByRecursion, range_with_len}
use Rattle.std.proofs.lemmas.List.{length-map, get_or-map, ext_get_or}
use Rattle.std.proofs.lemmas.List.FromFn.{get_or-map-range_with_len, length-map-range_with_len}
use Rattle.cs_schema.specs.declared.cells.Value.{Value}
use Rattle.cs_schema.specs.Rows.{cell}
use Rattle.cs_delta.specs.Image.{Pair}
use Rattle.cs_schema.specs.Lists.{numbers_below}
use Rattle.cs_delta.specs.Layers.{ArePairs, key_of, cell_of, pairs_of}

abbrev no_value : Value
no_value = Value.Int (pos 0)

abbrev no_pair : Pair
no_pair = (0, [])

module _ (n : ℕ) (key : ℕ → ℕ) (columns : List (List Value)) where
  abbrev pub row_at : ℕ → List Value
  row_at i = map (λ v. cell v i) columns

  abbrev pub made : List Pair
  made = map (λ i. (key i, row_at i)) (numbers_below n)

  length-made : length made ≡ n
  length-made = length-map-range_with_len (λ i. (key i, row_at i)) 0 n

  made_at : (i : ℕ) → i < n → get_or made i no_pair ≡ (key i, row_at i)
  made_at i l = get_or-map-range_with_len (λ i. (key i, row_at i)) 0 n i i no_pair l (omega arith)

  made_widths : (a m : ℕ) → AllByRecursion (λ (x : Pair). length x.1 ≡ length columns) (map (λ i. (key i, row_at i)) (range_with_len a m))
  made_widths a zero = tt
  made_widths a (suc m) = (length-map columns (λ v. cell v a), made_widths (a + 1) m)

  pub made_pairs : (keys : List ℕ) → length keys ≡ n → ((i : ℕ) → i < n → key i ≡ get_or keys i 0) → ((j : ℕ) → j < length columns → length (get_or columns j []) ≡ n) → ArePairs keys columns made
  made_pairs keys ln ek lens = record {
    keys_are = ext_get_or 0 (map key_of made) keys (length-map made key_of ∙ length-made ∙ sym ln) (λ i l. key_at i (omega (arith, length-map made key_of, length-made)));
    cells_are = λ j l. ext_get_or no_value (map (cell_of j) made) (get_or columns j []) (length-map made (cell_of j) ∙ length-made ∙ sym (lens j l)) (λ i m. cell_at j i l (omega (arith, length-map made (cell_of j), length-made)));
    widths = made_widths 0 n;
  }
    where
      key_at : (i : ℕ) → i < n → get_or (map key_of made) i 0 ≡ get_or keys i 0
      key_at i l = get_or-map key_of made i no_pair 0 (omega (arith, length-made)) ∙ ap key_of (made_at i l) ∙ ek i l

      cell_at : (j i : ℕ) → j < length columns → i < n → get_or (map (cell_of j) made) i no_value ≡ get_or (get_or columns j []) i no_value
      cell_at j i l m =
          get_or-map (cell_of j) made i no_pair no_value (omega (arith, length-made)) ∙ ap (cell_of j) (made_at i m)
          ∙ get_or-map (λ v. cell v i) columns j [] no_value l

-- keys and columns store the pairs that have them
pub pairs_are : (keys : List ℕ) (columns : List (List Value)) (xs : List Pair) → ArePairs keys columns xs → xs ≡ pairs_of keys columns
pairs_are keys columns xs p = ext_get_or no_pair xs (pairs_of keys columns) (count ∙ sym (length-map-range_with_len (λ i. (get_or keys i 0, map (λ v. cell v i) columns)) 0 (length keys))) (λ i l. at i l)
  where
    count : length xs ≡ length keys
    count = sym (length-map xs key_of) ∙ ap length p.keys_are

    wide : (ys : List Pair) → AllByRecursion (λ (x : Pair). length x.1 ≡ length columns) ys → (i : ℕ) → i < length ys → length (get_or ys i no_pair).1 ≡ length columns
    wide [] h i l = absurd (omega arith)
    wide (y ∷ ys) h zero l = h.0
    wide (y ∷ ys) h (suc i) l = wide ys h.1 i (omega arith)

    row_is : (i : ℕ) → i < length xs → (get_or xs i no_pair).1 ≡ map (λ v. cell v i) columns
    row_is i l = ext_get_or no_value (get_or xs i no_pair).1 (map (λ v. cell v i) columns) (wide xs p.widths i l ∙ sym (length-map columns (λ v. cell v i))) (λ j m. cells j m)
      where
        cells : (j : ℕ) → j < length (get_or xs i no_pair).1 → get_or (get_or xs i no_pair).1 j no_value ≡ get_or (map (λ v. cell v i) columns) j no_value
        cells j m =
            let w = wide xs p.widths i l in
            let lt : j < length columns = omega arith in
            sym (get_or-map (cell_of j) xs i no_pair no_value l) ∙ ap (λ (a : List Value). get_or a i no_value) (p.cells_are j lt) ∙ sym (get_or-map (λ v. cell v i) columns j [] no_value lt)

    at : (i : ℕ) → i < length xs → get_or xs i no_pair ≡ get_or (pairs_of keys columns) i no_pair
    at i l =
        let lt : i < length keys = omega (arith, count) in
        let key : (get_or xs i no_pair).0 ≡ get_or keys i 0 = sym (get_or-map key_of xs i no_pair 0 l) ∙ ap (λ (a : List ℕ). get_or a i 0) p.keys_are in
        ap (λ (k : ℕ). (k, (get_or xs i no_pair).1)) key ∙ ap (λ (r : List Value). (get_or keys i 0, r)) (row_is i l)
        ∙ sym (get_or-map-range_with_len (λ i. (get_or keys i 0, map (λ v. cell v i) columns)) 0 (length keys) i i no_pair lt (omega arith))

-- each column of pairs has as many cells as there are keys
pub lengths_of : (keys : List ℕ) (columns : List (List Value)) (xs : List Pair) → ArePairs keys columns xs → (j : ℕ) → j < length columns → length (get_or columns j []) ≡ length keys
lengths_of keys columns xs p j l = sym (ap length (p.cells_are j l)) ∙ length-map xs (cell_of j) ∙ sym (length-map xs key_of) ∙ ap length p.keys_are

pub kept_pairs : (keys : List ℕ) (columns : List (List Value)) → ((j : ℕ) → j < length columns → length (get_or columns j []) ≡ length keys) → ArePairs keys columns (pairs_of keys columns)
kept_pairs keys columns lens = made_pairs (length keys) (λ i. get_or keys i 0) columns keys refl (λ i l. refl) lens
