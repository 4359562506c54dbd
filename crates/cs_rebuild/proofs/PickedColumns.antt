-- Rows that are selected by their numbers, in columns.
use Rattle.std.proofs.Common.{◌≡◌, ℕ, List, [], ◌∷◌, map, length, refl, ap, subst, Result, Ok, Err}
use Rattle.std.specs.Prelude.{IfOk}
use Rattle.std.specs.List.{AllZip, range_with_len}
use Rattle.std.specs.declared.alloc.AllocError.{AllocError}
use Rattle.rayon.proofs.ListFacts.{AllZip-weaken, IfOk-then}
use Rattle.cs_schema.specs.CatalogData.{CatalogData}
use Rattle.cs_schema.specs.declared.cells.Cells.{Cells}
use Rattle.cs_schema.specs.Rows.{Row, cell}
use Rattle.cs_order.specs.Orders.{row_at}
use Rattle.cs_rows.specs.Columns.{ColumnsFit}
use Rattle.cs_rows.specs.RowSteps.{AreRows}
use Rattle.cs_rows.proofs.TableLemmas.{none_borrowed}
use Rattle.cs_recovery.specs.Columns.{AreColumnsOf}
use Rattle.cs_rebuild.specs.Walking.{IsColumnOf}
use Rattle.cs_rebuild.proofs.AppendedColumns.{IsJoined, joined_fit, joined_rows}

pub both_ok : {T E : Type 0} (r : Result T E) (P Q R : T → Type 0) → IfOk r P → IfOk r Q → ((v : T) → P v → Q v → R v) → IfOk r R
both_ok (Ok v) P Q R p q f = f v p q
both_ok (Err e) P Q R p q f = tt

pub cells_of_rows : (rows : List Row) (c : ℕ) (numbers : List ℕ) → map (λ r. cell (row_at rows r) c) numbers ≡ map (λ row. cell row c) (map (row_at rows) numbers)
cells_of_rows rows c [] = refl
cells_of_rows rows c (n ∷ ns) = ap (λ l. cell (row_at rows n) c ∷ l) (cells_of_rows rows c ns)

pub picked_columns : (C : CatalogData) (rows : List Row) (columns : List Cells) → AllZip (λ (k : ℕ) (r : Result Cells AllocError). IfOk r (IsColumnOf C rows k)) (range_with_len 0 (length C.columns)) (map Ok columns) → AreColumnsOf C rows columns
picked_columns C rows columns h =
    let P : ℕ → Result Cells AllocError → Type 0 = λ k r. IfOk r (IsColumnOf C rows k) in
    let z : AllZip (IsJoined C rows []) (range_with_len 0 (length C.columns)) (map Ok columns) = AllZip-weaken P (IsJoined C rows []) (λ k r x. IfOk-then r _ _ x (λ cells made. made)) (range_with_len 0 (length C.columns)) (map Ok columns) h in
    let fit : ColumnsFit C columns = subst (ColumnsFit C) (none_borrowed columns) (joined_fit C rows [] columns z) in
    let are : AreRows C rows columns = subst (AreRows C rows) (none_borrowed columns) (joined_rows C rows [] columns z) in
    record { count = fit.count; kinds = fit.kinds; cells = are }
