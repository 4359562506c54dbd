-- The rows of columns.
use Rattle.std.proofs.Common.{◌≡◌, ℕ, ◌<◌, List, [], ◌∷◌, length, map, get_or, refl, sym, ap, ◌∙◌, arith}
use Rattle.std.specs.Prelude.{pos}
use Rattle.std.proofs.lemmas.List.{length-map, get_or-map}
use Rattle.std.proofs.lemmas.Option.{slice_get-get_or}
use Rattle.std.proofs.lemmas.List.FromFn.{fill_by_all, get_or-map-range_with_len, length-map-range_with_len}
use Rattle.cs_schema.specs.declared.cells.Cells.{Cells}
use Rattle.cs_schema.specs.declared.cells.Value.{Value}
use Rattle.cs_schema.specs.Values.{values, kind_of}
use Rattle.cs_schema.specs.Rows.{cell, Row}
use Rattle.cs_schema.specs.Lists.{IsIn}
use Rattle.cs_schema.proofs.Lists.{in_at}
use Rattle.cs_rows.specs.WalkedView.{row_of, rows_of, count_of, walked_data, AreColumns, IsWide}

pub length_rows : (columns : List Cells) (count : ℕ) → length (rows_of columns count) ≡ count
length_rows columns count = length-map-range_with_len (row_of columns) 0 count

-- each row has a cell in each column
pub rows_wide : (columns : List Cells) → IsWide (walked_data columns)
rows_wide columns k d h =
    let n : ℕ = count_of columns in
    let l : length (rows_of columns n) ≡ n = length_rows columns n in
    ap length (get_or-map-range_with_len (row_of columns) 0 n k k d (omega (arith, l, h)) (omega arith))
    ∙ length-map columns (λ (x : Cells). cell (values x) k) ∙ sym (length-map columns kind_of)

-- the cells of the rows in a column are those of the column
pub column_of_rows : (columns : List Cells) (c : ℕ) (cells : Cells) → c < length columns → cells ≡ get_or columns c cells → AreColumns columns → values cells ≡ map (λ (row : Row). cell row c) (rows_of columns (count_of columns))
column_of_rows columns c cells h e are =
    let n : ℕ = count_of columns in
    let v : Value = Value.Int (pos 0) in
    let inside : IsIn cells columns = in_at columns c cells (slice_get-get_or columns c cells h ∙ ap Rattle.std.specs.Prelude.Some (sym e)) in
    let rows : List Row = rows_of columns n in
    let l : length rows ≡ n = length_rows columns n in
    let f : Row → Value = λ row. cell row c in
    fill_by_all (cell (values cells)) (values cells) n v (are.lengths cells inside) (λ k b. refl)
    ∙ sym (fill_by_all (cell (values cells)) (map f rows) n v (length-map rows f ∙ l)
    (λ k b.
    let d : k < length rows = omega arith in
    get_or-map f rows k [] v d
    ∙ ap f (get_or-map-range_with_len (row_of columns) 0 n k k [] b (omega arith))
    ∙ get_or-map (λ (x : Cells). cell (values x) k) columns c cells v h
    ∙ ap (λ (x : Cells). cell (values x) k) (sym e)))

pub count_first : (columns : List Cells) (cells : Cells) → cells ≡ get_or columns 0 cells → 0 < length columns → length (values cells) ≡ count_of columns
count_first [] cells e h = absurd (omega arith)
count_first (x ∷ xs) cells e h = ap (λ (y : Cells). length (values y)) e
