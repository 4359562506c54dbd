-- The chunks of a column: what they hold, and that they fit its code.
use Rattle.std.proofs.Common.{◌≡◌, ℕ, suc, ◌+◌, ◌-◌, ◌*◌, ◌/◌, ◌<◌, ◌≤◌, List, [], ◌∷◌, ◌++◌, map, take, drop, length, refl, sym, ap, subst, ◌∙◌, Some, arith, pos}
use Rattle.std.specs.Prelude.{slice_index, ◌≤ℤ◌}
use Rattle.std.specs.List.{slice_get}
use Rattle.std.proofs.lemmas.List.{get_or-take, get_or-drop, length-take, length-drop, take-map, drop-map, take_all, length-map, map-append}
use Rattle.std.proofs.lemmas.Option.{same_Some, slice_get-get_or, get_or_from_slice_get}
use Rattle.std.proofs.Math.Seq.{take-add}
use Rattle.std.proofs.Math.Nat.{lt-div-mul-add}
use Rattle.cs_schema.specs.declared.cells.Value.{Value}
use Rattle.cs_schema.specs.declared.kinds.Kind.{Kind}
use Rattle.cs_schema.specs.CatalogData.{CatalogData, ColumnData, no_column, projection, column}
use Rattle.cs_schema.specs.Order.{row_limit}
use Rattle.cs_schema.specs.Rows.{Row, cell}
use Rattle.cs_schema.proofs.Lists.{slice_get_map}
use Rattle.cs_codec.specs.ColumnText.{int_of}
use Rattle.cs_codec.specs.Columns.{cells_at}
use Rattle.cs_piece.specs.Columns.{CanEncode}
use Rattle.cs_order.specs.Orders.{row_at}
use Rattle.cs_recovery.proofs.Afresh.{fits_code}
use Rattle.cs_rebuild.specs.Encoding.{pieces_of, cut_at, Rises}
use Rattle.cs_rebuild.specs.SegmentEncoder.{CanEncodeAt, code_in, kind_in, values_in}
use Rattle.cs_rebuild.specs.declared.segment_encoder.SegmentEncoder.{SegmentEncoder}
use Rattle.cs_rebuild.proofs.PlacedCells.{each_there}

-- ---- cells of a walked column

-- the kind of a column of walked rows
pub kind_of_column : (C : CatalogData) (kinds : List Kind) (n : ℕ) (k : Kind) → kinds ≡ map (λ c. c.kind) C.columns → n < length C.columns → slice_get kinds n ≡ Some k → k ≡ (column C n).kind
kind_of_column C kinds n k e l at =
    same_Some k (column C n).kind (sym at ∙ ap (λ ks. slice_get ks n) e ∙ slice_get_map (λ (c : ColumnData). c.kind) C.columns n (column C n) (slice_get-get_or C.columns n no_column l))

cell_at : (rows : List Row) (n r : ℕ) → r < length rows → cell (map (λ (row : Row). cell row n) rows) r ≡ cell (row_at rows r) n
cell_at rows n r l = get_or_from_slice_get (map (λ (row : Row). cell row n) rows) r (cell (row_at rows r) n) (Value.Int (pos 0)) (slice_get_map (λ (row : Row). cell row n) rows r (row_at rows r) (slice_get-get_or rows r [] l))

-- the cells of a column at some rows
pub cells_are : (rows : List Row) (n : ℕ) (numbers : List ℕ) → ((k : ℕ) → k < length numbers → slice_index numbers k < length rows) → map (cell (map (λ (row : Row). cell row n) rows)) numbers ≡ map (λ r. cell (row_at rows r) n) numbers
cells_are rows n [] below = refl
cells_are rows n (r ∷ rs) below =
    ap (λ v. v ∷ map (cell (map (λ (row : Row). cell row n) rows)) rs) (cell_at rows n r (below 0 (omega arith)))
    ∙ ap (λ l. cell (row_at rows r) n ∷ l) (cells_are rows n rs (λ k l. below (suc k) (omega arith)))

-- ---- parts of a list

pub rises_take : (n : ℕ) (v : List Value) → Rises v → Rises (take n v)
rises_take n v rises i l =
    let long = length-take n v in
    let low : i + 1 < n = omega (arith, l, long) in
    let high : i + 1 < length v = omega (arith, l, long) in
    let d : Value = Value.Int (pos 0) in
    subst (λ w. int_of w ≤ℤ int_of (cell (take n v) (i + 1))) (sym (get_or-take n v i d (omega arith)))
    (subst (λ w. int_of (cell v i) ≤ℤ int_of w) (sym (get_or-take n v (i + 1) d low)) (rises i high))

pub rises_drop : (n : ℕ) (v : List Value) → Rises v → Rises (drop n v)
rises_drop n v rises i l =
    let long = length-drop n v in
    let high : n + i + 1 < length v = omega (arith, l, long) in
    let d : Value = Value.Int (pos 0) in
    let next : n + i + 1 ≡ n + (i + 1) = omega arith in
    subst (λ w. int_of w ≤ℤ int_of (cell (drop n v) (i + 1))) (sym (get_or-drop n v i d))
    (subst (λ w. int_of (cell v (n + i)) ≤ℤ int_of w) (ap (cell v) next ∙ sym (get_or-drop n v (i + 1) d)) (rises (n + i) high))

pub below_cut : (cut k rows : ℕ) (numbers : List ℕ) → ((i : ℕ) → i < length numbers → slice_index numbers i < rows) → (i : ℕ) → i < length (cut_at cut numbers k) → slice_index (cut_at cut numbers k) i < rows
below_cut cut k rows numbers below i l =
    let a = length-take cut (drop (k * cut) numbers) in
    let b = length-drop (k * cut) numbers in
    let low : i < cut = omega (arith, l, a) in
    let high : k * cut + i < length numbers = omega (arith, l, a, b) in
    subst (λ x. x < rows) (sym (get_or-take cut (drop (k * cut) numbers) i 0 low ∙ get_or-drop (k * cut) numbers i 0)) (below (k * cut + i) high)

pub few_cut : (cut k n : ℕ) (numbers : List ℕ) → length numbers ≤ n → length (cut_at cut numbers k) ≤ n
few_cut cut k n numbers few =
    let a = length-take cut (drop (k * cut) numbers) in
    let b = length-drop (k * cut) numbers in
    omega (arith, few, a, b)

-- ---- the chunks of a column

module _ (e : SegmentEncoder) (j : ℕ) (numbers : List ℕ) where
  abbrev value_of : ℕ → Value
  value_of r = cell (row_at e.store.now.walked.rows r) (slice_index (projection e.store.now.catalog.now e.p).columns j)

  -- the values of the table's column at the rows with these numbers
  pub placed_values : (n : ℕ) (v : List Value) → n ≡ slice_index (projection e.store.now.catalog.now e.p).columns j → v ≡ map (λ (row : Row). cell row n) e.store.now.walked.rows → CanEncodeAt e j numbers → cells_at v numbers ≡ values_in e j numbers
  placed_values n v number held can =
      let rows = e.store.now.walked.rows in
      let long : length v ≡ length rows = ap length held ∙ length-map rows (λ (row : Row). cell row n) in
      each_there v numbers (Value.Int (pos 0)) (λ k l. let b = can.below k l in omega (arith, b, long))
      ∙ ap (λ l. map (cell l) numbers) held ∙ cells_are rows n numbers can.below
      ∙ ap (λ m. map (λ r. cell (row_at rows r) m) numbers) number

  pub can_encode : CanEncodeAt e j numbers → CanEncode (code_in e j) (kind_in e j) (values_in e j numbers)
  can_encode can =
      let long = length-map numbers value_of in
      let few = can.few in
      record { count = omega (arith, few, long); order = fits_code (code_in e j) (kind_in e j) (values_in e j numbers) can.rises }

  pub can_encode_cut : (cut k : ℕ) → CanEncodeAt e j numbers → CanEncodeAt e j (cut_at cut numbers k)
  can_encode_cut cut k can = record {
    below = below_cut cut k (length e.store.now.walked.rows) numbers can.below;
    few = few_cut cut k row_limit numbers can.few;
    rises = λ same.
        let r = can.rises same in
        let values : take cut (drop (k * cut) (map value_of numbers)) ≡ map value_of (cut_at cut numbers k) = ap (take cut) (drop-map value_of (k * cut) numbers) ∙ take-map value_of cut (drop (k * cut) numbers) in
        (r.0, subst Rises values (rises_take cut (drop (k * cut) (map value_of numbers)) (rises_drop (k * cut) (map value_of numbers) r.1)));
  }

  pub can_encode_first : (n : ℕ) → CanEncodeAt e j numbers → CanEncodeAt e j (take n numbers)
  can_encode_first n can = let none : 0 * n ≡ 0 = grind arith in subst (λ m. CanEncodeAt e j (take n (drop m numbers))) none (can_encode_cut n 0 can)

  -- the first chunks, and one more
  pub one_more : (cut k : ℕ) → values_in e j (take (k * cut) numbers) ++ values_in e j (cut_at cut numbers k) ≡ values_in e j (take ((k + 1) * cut) numbers)
  one_more cut k =
      let same : k * cut + cut ≡ (k + 1) * cut = grind arith in
      sym (ap (λ n. map value_of (take n numbers)) (sym same) ∙ ap (map value_of) (take-add (k * cut) cut numbers) ∙ map-append value_of (take (k * cut) numbers) (take cut (drop (k * cut) numbers)))

  -- no chunks yet
  pub none_of : (cut : ℕ) → values_in e j (take (0 * cut) numbers) ≡ []
  none_of cut = let a : 0 * cut ≡ 0 = grind arith in ap (λ n. map value_of (take n numbers)) a

  -- the first chunk
  pub first_cut : (cut : ℕ) → values_in e j (cut_at cut numbers 0) ≡ values_in e j (take (1 * cut) numbers)
  first_cut cut =
      let a : 0 * cut ≡ 0 = grind arith in
      let b : cut ≡ 1 * cut = grind arith in
      ap (λ n. map value_of (take cut (drop n numbers))) a ∙ ap (λ n. map value_of (take n numbers)) b

  -- all chunks
  pub all_cuts : (cut chunks n : ℕ) → 1 ≤ cut → chunks ≡ pieces_of (length numbers) cut → chunks ≤ n → values_in e j (take (n * cut) numbers) ≡ values_in e j numbers
  all_cuts cut chunks n some same more = ap (map value_of) (take_all (n * cut) numbers covered)
    where
      q : ℕ
      q = (length numbers + cut - 1) / cut

      times : (a b : ℕ) → a ≤ b → a * cut ≤ b * cut
      times a b l = let x : a * cut + (b - a) * cut ≡ (a + (b - a)) * cut = grind arith in let y : a + (b - a) ≡ b = omega (arith, l) in let z : (a + (b - a)) * cut ≡ b * cut = ap (λ n. n * cut) y in omega (arith, x, z)

      covered : length numbers ≤ n * cut
      covered =
          let l : length numbers + cut - 1 < q * cut + cut = lt-div-mul-add (omega (arith, some)) in
          let most : q ≤ n = omega (arith, same, more) in
          let t = times q n most in
          omega (arith, l, t, some)
