-- The rows of a table that is given in columns.
use Rattle.std.proofs.Common.{◌≡◌, ℕ, zero, suc, ◌<◌, ◌≤◌, List, [], ◌∷◌, length, refl, sym, ap, ◌∙◌, arith, Some, Ordering}
use Rattle.std.specs.List.{slice_get}
use Rattle.std.proofs.lemmas.List.{length-map}
use Rattle.std.proofs.lemmas.List.FromFn.{length-map-range_with_len}
use Rattle.std.proofs.lemmas.Option.{same_Some, none-some, slice_get_within, slice_get-get_or}
use Rattle.std.specs.Option.{option_cmp}
use Rattle.std.specs.Ordering.{ordering_reverse}
use Rattle.std.specs.Prelude.{pos}
use Rattle.std.specs.declared.cmp.Ordering.TheVariants.{Less, Equal, Greater}
use Rattle.cs_schema.specs.declared.cells.Cells.{Cells}
use Rattle.cs_schema.specs.declared.cells.Value.{Value}
use Rattle.cs_schema.specs.CatalogData.{CatalogData}
use Rattle.cs_schema.specs.Rows.{Row, cell, key_cmp}
use Rattle.cs_schema.specs.Values.{values, value_cmp}
use Rattle.cs_schema.specs.ValueOrder.{value_cmp_total, value_cmp-IsAntisymmetric}
use Rattle.cs_schema.proofs.Lists.{in_at, slice_get-made, slice_get_map}
use Rattle.cs_design.proofs.Items.{sorted_at}
use Rattle.cs_rows.specs.WalkedView.{row_of, count_of}
use Rattle.cs_diagnosis.specs.Columns.{IsTableIn, rows_in}
use Rattle.cs_diagnosis.specs.Next.{IsNext}
use Rattle.cs_diagnosis.proofs.MergedSoFar.{Rising}

module _ (C : CatalogData) (columns : List Cells) (t : IsTableIn C columns) where
  pub rising : Rising C.key (rows_in columns)
  rising i j r q l a b = sorted_at (key_cmp C) (rows_in columns) i j r q t.table.keys l a b

  pub total : length (rows_in columns) ≡ count_of columns
  total = length-map-range_with_len (row_of columns) 0 (count_of columns)

  module _ (i : ℕ) (h : i < count_of columns) where
    pub row_there : slice_get (rows_in columns) i ≡ Some (row_of columns i)
    row_there = slice_get-made (row_of columns) (count_of columns) i h

    -- if there is a row, there are as many columns as the table has
    pub as_wide : length columns ≡ length C.columns
    as_wide = sym (length-map columns (λ (x : Cells). cell (values x) i)) ∙ (t.table.rows (row_of columns i) (in_at (rows_in columns) i (row_of columns i) row_there)).0

    pub cell_there : (c : ℕ) (x : Cells) → slice_get columns c ≡ Some x → slice_get (row_of columns i) c ≡ Some (cell (values x) i)
    cell_there c x at = slice_get_map (λ (z : Cells). cell (values z) i) columns c x at

-- ---- which has the next key

cell_at : (r : Row) (c : ℕ) (v : Value) → slice_get r c ≡ Some v → cell r c ≡ v
cell_at [] c v e = absurd (none-some v e)
cell_at (x ∷ r) zero v e = same_Some x v e
cell_at (x ∷ r) (suc c) v e = cell_at r c v e

cell_or : (x : Cells) (i : ℕ) → i < length (values x) → slice_get (values x) i ≡ Some (cell (values x) i)
cell_or x i h = slice_get-get_or (values x) i (Value.Int (pos 0)) h

module _ (C : CatalogData) (a b : List Cells) (first : IsTableIn C a) (second : IsTableIn C b) (i j : ℕ) where
  module _ (here : i < count_of a) (there : j < count_of b) (x y : Cells) (at : slice_get a C.key ≡ Some x) (by : slice_get b C.key ≡ Some y) where
    key_here : cell (row_of a i) C.key ≡ cell (values x) i
    key_here = cell_at (row_of a i) C.key (cell (values x) i) (cell_there C a first i here C.key x at)

    key_there : cell (row_of b j) C.key ≡ cell (values y) j
    key_there = cell_at (row_of b j) C.key (cell (values y) j) (cell_there C b second j there C.key y by)

    stands : (o : Ordering) → o ≡ value_cmp (cell (row_of a i) C.key) (cell (row_of b j) C.key) → IsNext C.key (rows_in a) (rows_in b) i j o
    stands Less e = IsNext.first (row_of a i) (row_there C a first i here) (λ q g. ap (λ r. value_cmp (cell (row_of a i) C.key) (cell r C.key)) (same_Some q (row_of b j) (sym g ∙ row_there C b second j there)) ∙ sym e) refl
    stands Equal e = IsNext.both (row_of a i) (row_of b j) (row_there C a first i here) (row_there C b second j there) (value_cmp-IsAntisymmetric (cell (row_of a i) C.key) (cell (row_of b j) C.key) (sym e)) refl
    stands Greater e =
        IsNext.second (row_of b j) (row_there C b second j there)
        (λ r g. value_cmp_total.antisymm (cell (row_of b j) C.key) (cell r C.key) ∙ ap ordering_reverse (ap (λ z. value_cmp (cell z C.key) (cell (row_of b j) C.key)) (same_Some r (row_of a i) (sym g ∙ row_there C a first i here)) ∙ sym e)) refl

    pub keys_stand : (o : Ordering) → o ≡ option_cmp value_cmp (slice_get (values x) i) (slice_get (values y) j) → IsNext C.key (rows_in a) (rows_in b) i j o
    keys_stand o e =
        let long = first.even.lengths x (in_at a C.key x at) in
        let long' = second.even.lengths y (in_at b C.key y by) in
        let cells : slice_get (values x) i ≡ Some (cell (values x) i) = cell_or x i (omega (arith, long, here)) in
        let cells' : slice_get (values y) j ≡ Some (cell (values y) j) = cell_or y j (omega (arith, long', there)) in
        stands o (e ∙ ap (λ z. option_cmp value_cmp z (slice_get (values y) j)) cells ∙ ap (option_cmp value_cmp (Some (cell (values x) i))) cells' ∙ ap (λ z. value_cmp z (cell (values y) j)) (sym key_here) ∙ ap (value_cmp (cell (row_of a i) C.key)) (sym key_there))

  -- past the last row of one table, the other has the next key
  pub only_second : count_of a ≤ i → j < count_of b → IsNext C.key (rows_in a) (rows_in b) i j Greater
  only_second past there =
      IsNext.second (row_of b j) (row_there C b second j there)
      (λ r g. let low = slice_get_within (rows_in a) i r g in absurd (let n = total C a first in omega (arith, low, past, n))) refl

  pub only_first : count_of b ≤ j → i < count_of a → IsNext C.key (rows_in a) (rows_in b) i j Less
  only_first past here =
      IsNext.first (row_of a i) (row_there C a first i here)
      (λ q g. let low = slice_get_within (rows_in b) j q g in absurd (let n = total C b second in omega (arith, low, past, n))) refl

  -- ---- equal rows

  module _ (here : i < count_of a) (there : j < count_of b) where
    pub alike_rows : ((c : ℕ) (x y : Cells) → c < length a → slice_get a c ≡ Some x → slice_get b c ≡ Some y → slice_get (values x) i ≡ slice_get (values y) j) → row_of a i ≡ row_of b j
    alike_rows f =
        let wide = as_wide C a first i here in
        let wide' = as_wide C b second j there in
        same_made a b (wide ∙ sym wide') (λ c x y l g h.
        let long = first.even.lengths x (in_at a c x g) in
        let long' = second.even.lengths y (in_at b c y h) in
        same_Some (cell (values x) i) (cell (values y) j)
        (sym (cell_or x i (omega (arith, long, here))) ∙ f c x y l g h ∙ cell_or y j (omega (arith, long', there))))
      where
        same_made : (a b : List Cells) → length a ≡ length b → ((c : ℕ) (x y : Cells) → c < length a → slice_get a c ≡ Some x → slice_get b c ≡ Some y → cell (values x) i ≡ cell (values y) j) → row_of a i ≡ row_of b j
        same_made [] [] l f = refl
        same_made [] (y ∷ b) l f = absurd (omega (arith, l))
        same_made (x ∷ a) [] l f = absurd (omega (arith, l))
        same_made (x ∷ a) (y ∷ b) l f = ap (λ z. z ∷ row_of a i) (f 0 x y (omega arith) refl refl) ∙ ap (λ zs. cell (values y) j ∷ zs) (same_made a b (omega (arith, l)) (λ c u v h g k. f (suc c) u v (omega arith) g k))

    pub alike_cells : row_of a i ≡ row_of b j → (c : ℕ) (x y : Cells) → slice_get a c ≡ Some x → slice_get b c ≡ Some y → slice_get (values x) i ≡ slice_get (values y) j
    alike_cells e c x y g h =
        let long = first.even.lengths x (in_at a c x g) in
        let long' = second.even.lengths y (in_at b c y h) in
        cell_or x i (omega (arith, long, here)) ∙ sym (cell_there C a first i here c x g) ∙ ap (λ r. slice_get r c) e ∙ cell_there C b second j there c y h ∙ sym (cell_or y j (omega (arith, long', there)))
