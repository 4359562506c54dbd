-- Rows with distinct primary keys, and the rows of a segment of their table.
use Rattle.std.proofs.Common.{◌≡◌, ℕ, ◌<◌, ◌≤◌, ◌+◌, ◌==◌, ◌||◌, List, [], ◌∷◌, suc, zero, length, map, get_or, Some, Bool, true, false, cond, refl, sym, ap, ◌∙◌, subst, arith, inl, inr, eqb-true, eq-eqb, Ordering}
use Rattle.std.specs.Prelude.{slice_get}
use Rattle.std.specs.List.{filter, list_any, count_by}
use Rattle.std.specs.List.Sorted.{IsStrictlySortedBy}
use Rattle.std.specs.Ordering.{is_eq}
use Rattle.std.specs.declared.cmp.Ordering.TheVariants.{Less, Equal, Greater}
use Rattle.std.specs.Cmp.{tied_itself}
use Rattle.std.proofs.lemmas.List.{length-map}
use Rattle.std.proofs.lemmas.List.Sums.{sum_by-cons}
use Rattle.std.proofs.lemmas.List.Elements.{All-contains}
use Rattle.std.proofs.lemmas.Option.{slice_get-get_or, slice_get_within, get_or_from_slice_get}
use Rattle.std.proofs.lemmas.Map.Keys.{sorted_from_all_adjacent}
use Rattle.cs_schema.specs.declared.cells.Value.{Value}
use Rattle.cs_schema.specs.Lists.{IsIn}
use Rattle.cs_schema.specs.Values.{value_cmp, value_eq}
use Rattle.cs_schema.specs.ValueOrder.{value_cmp_total, value_cmp-IsAntisymmetric}
use Rattle.cs_schema.specs.CatalogData.{CatalogData, projection, segments}
use Rattle.cs_schema.specs.Rows.{Row, cell, key_cmp, row_cmp, segment_of_row}
use Rattle.cs_schema.specs.Order.{by_order, placed, ascending, rows_of}
use Rattle.cs_schema.proofs.Ascending.{same_ascending, ascending_sorted, in_ascending, ascending_in, in_filter, filter_in, false≢true}
use Rattle.cs_schema.proofs.RowOrder.{key_total, row_total, tied_key}
use Rattle.cs_schema.proofs.Lists.{in_at, at_in, in_map, map_in}
use Rattle.cs_order.specs.Tables.{table_of, is_twice}
use Rattle.cs_order.specs.Orders.{row_at}
use Rattle.cs_order.specs.Numbers.{AreNumbersOf}

-- two rows have the same primary key
abbrev pub HasKeyTwice : CatalogData → List Row → Type 0
HasKeyTwice C rows = (a : ℕ) × (b : ℕ) × (a < b) × (b < length rows) × (cell (row_at rows a) C.key ≡ cell (row_at rows b) C.key)

-- ---- repeated keys

or_left : (a b : Bool) → (a || b) ≡ false → a ≡ false
or_left true b e = e
or_left false b e = refl

or_right : (a b : Bool) → (a || b) ≡ false → b ≡ false
or_right true b e = false≢true (sym e)
or_right false b e = e

none_is : (test : Row → Bool) (rows : List Row) → list_any test rows ≡ false → (x : Row) → IsIn x rows → test x ≡ false
none_is test [] e x h = absurd h
none_is test (r ∷ rs) e x (inl s) = ap test s ∙ or_left (test r) (list_any test rs) e
none_is test (r ∷ rs) e x (inr h) = none_is test rs (or_right (test r) (list_any test rs) e) x h

none_at : (test : Row → Bool) (rows : List Row) → ((b : ℕ) → b < length rows → test (get_or rows b []) ≡ false) → list_any test rows ≡ false
none_at test [] f = refl
none_at test (r ∷ rs) f = ap (λ b. b || list_any test rs) (f 0 (omega arith)) ∙ none_at test rs (λ b h. f (suc b) (omega arith))

in_there : (rows : List Row) (r : ℕ) → r < length rows → IsIn (get_or rows r []) rows
in_there rows r h = in_at rows r (get_or rows r []) (slice_get-get_or rows r [] h)

equal_keys : (v w : Value) → v ≡ w → value_eq v w ≡ true
equal_keys v w e = ap is_eq (ap (value_cmp v) (sym e) ∙ tied_itself value_cmp_total v)

tied_keys : (v w : Value) → value_eq v w ≡ true → v ≡ w
tied_keys v w e = value_cmp-IsAntisymmetric v w (is_Equal (value_cmp v w) e)
  where
    is_Equal : (o : Ordering) → is_eq o ≡ true → o ≡ Equal
    is_Equal Less h = false≢true h
    is_Equal Equal h = refl
    is_Equal Greater h = false≢true h

module _ (C : CatalogData) where
  pub once_apart : (rows : List Row) → is_twice C rows ≡ false → HasKeyTwice C rows → ⊥
  once_apart [] e (a, b, less, here, same) = omega arith
  once_apart (r ∷ rs) e (zero, zero, less, here, same) = omega arith
  once_apart (r ∷ rs) e (zero, suc b, less, here, same) =
      let inside : b < length rs = omega arith in
      let no : value_eq (cell r C.key) (cell (get_or rs b []) C.key) ≡ false = none_is (λ x. value_eq (cell r C.key) (cell x C.key)) rs (or_left _ (is_twice C rs) e) (get_or rs b []) (in_there rs b inside) in
      false≢true (sym no ∙ equal_keys _ _ same)
  once_apart (r ∷ rs) e (suc a, zero, less, here, same) = omega arith
  once_apart (r ∷ rs) e (suc a, suc b, less, here, same) = once_apart rs (or_right (list_any (λ x. value_eq (cell r C.key) (cell x C.key)) rs) (is_twice C rs) e) (a, b, omega arith, omega arith, same)

  pub apart_once : (rows : List Row) → (HasKeyTwice C rows → ⊥) → is_twice C rows ≡ false
  apart_once [] apart = refl
  apart_once (r ∷ rs) apart =
      ap (λ b. b || is_twice C rs) (none_at (λ x. value_eq (cell r C.key) (cell x C.key)) rs (λ b h. go b h (value_eq (cell r C.key) (cell (get_or rs b []) C.key)) refl))
      ∙ apart_once rs (λ t. apart (suc t.0, suc t.1, omega (arith, t.2), omega (arith, t.3), t.4))
    where
      go : (b : ℕ) → b < length rs → (t : Bool) → value_eq (cell r C.key) (cell (get_or rs b []) C.key) ≡ t → value_eq (cell r C.key) (cell (get_or rs b []) C.key) ≡ false
      go b h true e = absurd (apart (zero, suc b, omega arith, omega arith, tied_keys _ _ e))
      go b h false e = e

  pub apart_twice : (rows : List Row) → HasKeyTwice C rows → is_twice C rows ≡ true
  apart_twice rows t = go (is_twice C rows) refl
    where
      go : (b : Bool) → is_twice C rows ≡ b → is_twice C rows ≡ true
      go true e = e
      go false e = absurd (once_apart rows e t)

  -- if no key repeats, rows with the same key are equal
  pub one_row : (rows : List Row) → is_twice C rows ≡ false → (x y : Row) → IsIn x rows → IsIn y rows → key_cmp C x y ≡ Equal → x ≡ y
  one_row [] e x y h k t = absurd h
  one_row (r ∷ rs) e x y (inl a) (inl b) t = a ∙ sym b
  one_row (r ∷ rs) e x y (inl a) (inr k) t =
      let no : value_eq (cell r C.key) (cell y C.key) ≡ false = none_is (λ z. value_eq (cell r C.key) (cell z C.key)) rs (or_left _ (is_twice C rs) e) y k in
      false≢true (sym no ∙ ap (λ (z : Row). value_eq (cell z C.key) (cell y C.key)) (sym a) ∙ ap is_eq t)
  one_row (r ∷ rs) e x y (inr h) (inl b) t =
      let no : value_eq (cell r C.key) (cell x C.key) ≡ false = none_is (λ z. value_eq (cell r C.key) (cell z C.key)) rs (or_left _ (is_twice C rs) e) x h in
      let same : cell x C.key ≡ cell y C.key = value_cmp-IsAntisymmetric _ _ t in
      false≢true (sym no ∙ equal_keys _ _ (ap (λ (z : Row). cell z C.key) (sym b) ∙ sym same))
  one_row (r ∷ rs) e x y (inr h) (inr k) t = one_row rs (or_right (list_any (λ z. value_eq (cell r C.key) (cell z C.key)) rs) (is_twice C rs) e) x y h k t

-- ---- the number of rows of a segment

length_placed : {X : Type 0} (cmp : X → X → Ordering) (x : X) (ys : List X) → ((y : X) → IsIn y ys → cmp x y ≡ Equal → ⊥) → length (placed cmp x ys) ≡ suc (length ys)
length_placed cmp x [] apart = refl
length_placed {X} cmp x (y ∷ ys) apart =
    let rest : length (placed cmp x ys) ≡ suc (length ys) = length_placed cmp x ys (λ z h. apart z (inr h)) in
    elim (cmp x y) as (λ o. cmp x y ≡ o → length (by_order o (x ∷ y ∷ ys) (y ∷ ys) (y ∷ placed cmp x ys)) ≡ suc (suc (length ys))) [
      | Less ↦ λ e. refl
      | Equal ↦ λ e. absurd (apart y (inl refl) e)
      | Greater ↦ λ e. ap suc rest
    ] refl

module _ (C : CatalogData) (p : ℕ) where
  length_ascending : (test : Row → Bool) (rows : List Row) → is_twice C rows ≡ false → length (ascending (row_cmp C p) (filter test rows)) ≡ length (filter test rows)
  length_ascending test [] once = refl
  length_ascending test (r ∷ rs) once =
      let rest : length (ascending (row_cmp C p) (filter test rs)) ≡ length (filter test rs) = length_ascending test rs (or_right (list_any (λ z. value_eq (cell r C.key) (cell z C.key)) rs) (is_twice C rs) once) in
      elim (test r) as (λ b. length (ascending (row_cmp C p) (cond b (r ∷ filter test rs) (filter test rs))) ≡ length (cond b (r ∷ filter test rs) (filter test rs))) [
        | true ↦ length_placed (row_cmp C p) r (ascending (row_cmp C p) (filter test rs)) apart ∙ ap suc rest
        | false ↦ rest
      ]
    where
      apart : (y : Row) → IsIn y (ascending (row_cmp C p) (filter test rs)) → row_cmp C p r y ≡ Equal → ⊥
      apart y h e =
          let there = (in_filter test rs y (in_ascending (row_cmp C p) (row_total C p) (filter test rs) y h)).0 in
          let no : value_eq (cell r C.key) (cell y C.key) ≡ false = none_is (λ z. value_eq (cell r C.key) (cell z C.key)) rs (or_left _ (is_twice C rs) once) y there in
          false≢true (sym no ∙ ap is_eq (tied_key C p r y e))

  module _ (rows : List Row) (once : is_twice C rows ≡ false) where
    in_table : (r : Row) → IsIn r rows → IsIn r (table_of C rows)
    in_table r h = ascending_in (key_cmp C) (key_total C) rows (one_row C rows once) r h

    from_table : (r : Row) → IsIn r (table_of C rows) → IsIn r rows
    from_table r h = in_ascending (key_cmp C) (key_total C) rows r h

    module _ (s : ℕ) where
      abbrev here : Row → Bool
      here r = segment_of_row C p r == s

      -- the rows of the table in a segment are the walked rows there
      in_rows_of : (r : Row) → IsIn r rows → segment_of_row C p r ≡ s → IsIn r (rows_of C (table_of C rows) p s)
      in_rows_of r h e =
          ascending_in (row_cmp C p) (row_total C p) (filter here (table_of C rows))
          (λ x y i j t. one_row C rows once x y (from_table x (in_filter here (table_of C rows) x i).0) (from_table y (in_filter here (table_of C rows) y j).0) (tied_key C p x y t))
          r (filter_in here (table_of C rows) r (in_table r h) (eq-eqb _ _ e))

      from_rows_of : (r : Row) → IsIn r (rows_of C (table_of C rows) p s) → IsIn r rows × (segment_of_row C p r ≡ s)
      from_rows_of r h =
          let m = in_filter here (table_of C rows) r (in_ascending (row_cmp C p) (row_total C p) (filter here (table_of C rows)) r h) in
          (from_table r m.0, eqb-true _ _ m.1)

      same_rows : rows_of C (table_of C rows) p s ≡ rows_of C rows p s
      same_rows =
          same_ascending (row_cmp C p) (row_total C p) (rows_of C (table_of C rows) p s) (rows_of C rows p s)
          (ascending_sorted (row_cmp C p) (row_total C p) (filter here (table_of C rows)))
          (ascending_sorted (row_cmp C p) (row_total C p) (filter here rows))
          (λ r h. let m = from_rows_of r h in
          ascending_in (row_cmp C p) (row_total C p) (filter here rows)
          (λ x y i j t. one_row C rows once x y (in_filter here rows x i).0 (in_filter here rows y j).0 (tied_key C p x y t))
          r (filter_in here rows r m.0 (eq-eqb _ _ m.1)))
          (λ r h. let m = in_filter here rows r (in_ascending (row_cmp C p) (row_total C p) (filter here rows) r h) in in_rows_of r m.0 (eqb-true _ _ m.1))

      pub rows_count : length (rows_of C (table_of C rows) p s) ≡ length (filter (λ (r : Row). segment_of_row C p r == s) rows)
      rows_count = ap length same_rows ∙ length_ascending here rows once

      -- the rows with the numbers of a segment are the table's rows there, in order
      pub numbered_rows : (numbers : List ℕ) → AreNumbersOf C rows p s numbers → map (row_at rows) numbers ≡ rows_of C (table_of C rows) p s
      numbered_rows numbers are =
          same_ascending (row_cmp C p) (row_total C p) (map (row_at rows) numbers) (rows_of C (table_of C rows) p s)
          sorted
          (ascending_sorted (row_cmp C p) (row_total C p) (filter here (table_of C rows)))
          (λ r h. to r (in_map (row_at rows) numbers r h))
          (λ r h. let m = from_rows_of r h in back r m.1 (at_in rows r m.0))
        where
          row_there : (k : ℕ) → k < length numbers → get_or (map (row_at rows) numbers) k [] ≡ row_at rows (get_or numbers k 0)
          row_there k h = get_or_from_slice_get (map (row_at rows) numbers) k (row_at rows (get_or numbers k 0)) [] (Rattle.cs_schema.proofs.Lists.slice_get_map (row_at rows) numbers k (get_or numbers k 0) (slice_get-get_or numbers k 0 h))

          rises : (k : ℕ) → k + 1 < length (map (row_at rows) numbers) → row_cmp C p (get_or (map (row_at rows) numbers) k []) (get_or (map (row_at rows) numbers) (k + 1) []) ≡ Less
          rises k h =
              let next : k + 1 < length numbers = omega (arith, length-map numbers (row_at rows)) in
              let first : k < length numbers = omega arith in
              rw (row_there k first, row_there (k + 1) next) (are.ascending k (k + 1) 0 (omega arith) next)

          sorted : IsStrictlySortedBy (row_cmp C p) (map (row_at rows) numbers)
          sorted = sorted_from_all_adjacent (row_total C p) (map (row_at rows) numbers) [] rises

          to : (r : Row) → ((x : ℕ) × IsIn x numbers × (r ≡ row_at rows x)) → IsIn r (rows_of C (table_of C rows) p s)
          to r (x, i, e) =
              let (k, at) = at_in numbers x i in
              let fact = All-contains (λ (n : ℕ). (n < length rows) × (segment_of_row C p (row_at rows n) ≡ s)) numbers x are.only (k, slice_get_within numbers k x at, get_or_from_slice_get numbers k x x at) in
              subst (λ (z : Row). IsIn z (rows_of C (table_of C rows) p s)) (sym e) (in_rows_of (row_at rows x) (in_there rows x fact.0) fact.1)

          back : (r : Row) → segment_of_row C p r ≡ s → ((i : ℕ) × (slice_get rows i ≡ Some r)) → IsIn r (map (row_at rows) numbers)
          back r e (i, at) =
              let is : row_at rows i ≡ r = get_or_from_slice_get rows i r [] at in
              let (k, inside, found) = are.each i (slice_get_within rows i r at) (ap (segment_of_row C p) is ∙ e) in
              let there : IsIn i numbers = in_at numbers k i (slice_get-get_or numbers k i inside ∙ ap Some found) in
              subst (λ (z : Row). IsIn z (map (row_at rows) numbers)) is (map_in (row_at rows) numbers i there)

-- ---- ranges that do not exist

count_most : (test : Value → Bool) (xs : List Value) → count_by test xs ≤ length xs
count_most test [] = omega arith
count_most test (x ∷ xs) =
    let rest : count_by test xs ≤ length xs = count_most test xs in
    rw (sum_by-cons (λ y. cond (test y) 1 0) x xs) (elim (test x) as (λ b. cond b 1 0 + count_by test xs ≤ suc (length xs)) [ true ↦ omega arith | false ↦ omega arith ])

pub segment_below : (C : CatalogData) (p : ℕ) (r : Row) → segment_of_row C p r < segments C p
segment_below C p r = omega (arith, count_most (λ c. Rattle.std.specs.Ordering.is_le (value_cmp c (cell r (get_or (projection C p).sort 0 0)))) (projection C p).cuts)

-- no row is in a segment that does not exist
pub no_rows : (C : CatalogData) (T : List Row) (p s : ℕ) → segments C p ≤ s → rows_of C T p s ≡ []
no_rows C T p s far = ap (ascending (row_cmp C p)) (none T)
  where
    apart : (r : Row) → segment_of_row C p r == s ≡ false
    apart r =
        let low : segment_of_row C p r < segments C p = segment_below C p r in
        Rattle.std.proofs.lemmas.Bool.ne_eqb (segment_of_row C p r) s (λ e. omega arith)

    none : (rows : List Row) → filter (λ (r : Row). segment_of_row C p r == s) rows ≡ []
    none [] = refl
    none (r ∷ rs) = ap (λ b. cond b (r ∷ filter (λ (x : Row). segment_of_row C p x == s) rs) (filter (λ (x : Row). segment_of_row C p x == s) rs)) (apart r) ∙ none rs
