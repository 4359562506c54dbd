-- The values of rows in the range of a segment, one row more.
use Rattle.std.proofs.Common.{◌≡◌, ℕ, ◌+◌, ◌<◌, ◌++◌, ◌∷◌, Bool, true, false, cond, List, [], length, map, take, get_or, refl, sym, ap, ◌∙◌, subst, zero-add}
use Rattle.std.specs.Prelude.{slice_index, pos, ◌==◌}
use Rattle.std.specs.List.{filter}
use Rattle.std.proofs.lemmas.List.{get_or-map, map-append}
use Rattle.std.proofs.lemmas.List.FromFn.{get_or-map-range_with_len, length-map-range_with_len}
use Rattle.std.proofs.lemmas.List.Elements.{filter_more}
use Rattle.cs_schema.specs.CatalogData.{CatalogData, projection}
use Rattle.cs_schema.specs.CatalogRules.{IsCatalog}
use Rattle.cs_schema.proofs.Lists.{member_at}
use Rattle.cs_schema.specs.Ranges.{range_of}
use Rattle.cs_schema.specs.Rows.{Row, cell, segment_of_row}
use Rattle.cs_schema.specs.Values.{values}
use Rattle.cs_schema.specs.declared.cells.Cells.{Cells}
use Rattle.cs_schema.specs.declared.cells.Value.{Value}
use Rattle.cs_rows.specs.WalkedView.{count_of, row_of}
use Rattle.cs_recovery.specs.Columns.{rows_in}
use Rattle.cs_tables.specs.Cutting.{values_in}

-- the first sort column of a projection is a column of the table
pub first_inside : (C : CatalogData) → IsCatalog C → (p : ℕ) → p < length C.projections → (sort : List ℕ) (first : ℕ) → sort ≡ (projection C p).sort → first ≡ get_or sort 0 first → first < length C.columns
first_inside C cat p h sort first e at =
    let some : 0 < length (projection C p).sort = (cat.projections p h).some_sort in
    let there : get_or (projection C p).sort 0 first < length C.columns = (cat.projections p h).columns _ ((cat.projections p h).sort _ (member_at (projection C p).sort 0 first some)) in
    subst (λ (n : ℕ). n < length C.columns) (sym (at ∙ ap (λ (l : List ℕ). get_or l 0 first) e)) there

pub rows-count : (rows : List Cells) → length (rows_in rows) ≡ count_of rows
rows-count rows = length-map-range_with_len (row_of rows) 0 (count_of rows)

kept : (b : Bool) (f : Row → Value) (row : Row) (v : Value) → f row ≡ v → map f (cond b (row ∷ []) []) ≡ cond b (v ∷ []) []
kept true f row v e = ap (λ (x : Value). x ∷ []) e
kept false f row v e = refl

module _ (C : CatalogData) (p s : ℕ) (rows : List Cells) (y : Cells) (first i : ℕ) (is : first ≡ slice_index (projection C p).sort 0) (low : first < length rows) (there : i < count_of rows) where
  row-there : get_or (rows_in rows) i [] ≡ row_of rows i
  row-there = get_or-map-range_with_len (row_of rows) 0 (count_of rows) i i [] there (zero-add i)

  -- a row is cut by its cell in the first sort column
  value-is : cell (get_or (rows_in rows) i []) (slice_index (projection C p).sort 0) ≡ cell (values (get_or rows first y)) i
  value-is =
      let P : ℕ → Type 0 = λ c. cell (row_of rows i) c ≡ cell (values (get_or rows first y)) i in
      ap (λ (r : Row). cell r (slice_index (projection C p).sort 0)) row-there
      ∙ subst P is (get_or-map (λ (x : Cells). cell (values x) i) rows first y (Value.Int (pos 0)) low)

  segment-is : segment_of_row C p (get_or (rows_in rows) i []) ≡ range_of (projection C p).cuts (cell (values (get_or rows first y)) i)
  segment-is = ap (range_of (projection C p).cuts) value-is

  -- one row more has its value at the end, if it is in the range
  pub value-more : (found : List Value) (b : Bool) (v : Value) → found ≡ values_in C p s (take i (rows_in rows))
      → (range_of (projection C p).cuts (cell (values (get_or rows first y)) i) == s) ≡ b
      → cell (values (get_or rows first y)) i ≡ v
      → found ++ cond b (v ∷ []) [] ≡ values_in C p s (take (i + 1) (rows_in rows))
  value-more found b v e t is_v =
      let size : i < length (rows_in rows) = subst (λ (m : ℕ). i < m) (sym (rows-count rows)) there in
      let row = get_or (rows_in rows) i [] in
      let tested : (segment_of_row C p row == s) ≡ b = ap (λ (m : ℕ). m == s) segment-is ∙ t in
      let worth : cell row (slice_index (projection C p).sort 0) ≡ v = value-is ∙ is_v in
      let f : Row → Value = λ r. cell r (slice_index (projection C p).sort 0) in
      let more : filter (λ r. segment_of_row C p r == s) (take (i + 1) (rows_in rows)) ≡ filter (λ r. segment_of_row C p r == s) (take i (rows_in rows)) ++ cond (segment_of_row C p row == s) (row ∷ []) []
      = filter_more (λ r. segment_of_row C p r == s) (rows_in rows) i [] size in
      sym (ap (map f) more ∙ map-append f (filter (λ r. segment_of_row C p r == s) (take i (rows_in rows))) (cond (segment_of_row C p row == s) (row ∷ []) [])
      ∙ ap (λ (l : List Value). l ++ map f (cond (segment_of_row C p row == s) (row ∷ []) [])) (sym e)
      ∙ ap (λ (c : Bool). found ++ map f (cond c (row ∷ []) [])) tested
      ∙ ap (λ (l : List Value). found ++ l) (kept b f row v worth))
