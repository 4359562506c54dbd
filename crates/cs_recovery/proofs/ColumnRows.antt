-- Rows in columns: those of a table, and those of columns of the catalog's kinds.
use Rattle.std.proofs.Common.{◌≡◌, ℕ, zero, suc, ◌<◌, List, [], ◌∷◌, length, map, get_or, sym, ap, subst, ◌∙◌, arith}
use Rattle.std.specs.Prelude.{All, pos}
use Rattle.std.proofs.lemmas.List.{length-map}
use Rattle.std.proofs.lemmas.Option.{slice_get-get_or, get_or_from_slice_get}
use Rattle.cs_schema.specs.CatalogData.{CatalogData, column}
use Rattle.cs_schema.specs.CatalogRules.{IsCatalog}
use Rattle.cs_schema.specs.declared.cells.Cells.{Cells}
use Rattle.cs_schema.specs.declared.cells.Value.{Value}
use Rattle.cs_schema.specs.Lists.{IsIn, numbers_below}
use Rattle.cs_schema.specs.Rows.{Row, IsRow, IsTable, cell, key_cmp}
use Rattle.cs_schema.specs.Values.{IsOfKind, values, kind_of}
use Rattle.cs_schema.proofs.Ascending.{same_ascending, ascending_sorted, in_ascending, ascending_in}
use Rattle.cs_schema.proofs.Lists.{in_at, in_map, in_range}
use Rattle.cs_schema.proofs.RowOrder.{tied_same, key_total}
use Rattle.cs_rows.specs.Columns.{ColumnsFit}
use Rattle.cs_rows.specs.WalkedView.{count_of, row_of}
use Rattle.cs_rows.proofs.FoundRows.{columns_of_rows, rows_in as rows_of_columns}
use Rattle.cs_order.specs.Tables.{table_of}
use Rattle.cs_order.proofs.SortedItems.{exists_at}
use Rattle.cs_recovery.specs.BuildAnswers.{AreTheTable}
use Rattle.cs_recovery.specs.Columns.{AreColumnsOf, AreTableColumns, rows_in}

get_or_map_in : {X Y : Type 0} (f : X → Y) (xs : List X) (i : ℕ) (e y : Y) → i < length xs → ((d : X) → f (get_or xs i d) ≡ y) → get_or (map f xs) i e ≡ y
get_or_map_in f [] i e y h k = absurd (omega arith)
get_or_map_in f (x ∷ xs) zero e y h k = k x
get_or_map_in f (x ∷ xs) (suc i) e y h k = get_or_map_in f xs i e y (omega arith) k

-- a table is the table of its own rows
pub table_itself : (C : CatalogData) (T : List Row) → IsTable C T → table_of C T ≡ T
table_itself C T t =
    same_ascending (key_cmp C) (key_total C) (table_of C T) T (ascending_sorted (key_cmp C) (key_total C) T) t.keys
    (λ r h. in_ascending (key_cmp C) (key_total C) T r h)
    (λ r h. ascending_in (key_cmp C) (key_total C) T (λ x y i j e. tied_same (key_cmp C) (key_total C) T t.keys x y i j e) r h)

module _ (C : CatalogData) (cat : IsCatalog C) (T : List Row) (t : IsTable C T) (columns : List Cells) (are : AreColumnsOf C T columns) where
  has_kinds : ColumnsFit C columns
  has_kinds = record { count = are.count; kinds = are.kinds }

  wide : All (λ (r : Row). length r ≡ length C.columns) T
  wide k d h = (t.rows (get_or T k d) (in_at T k (get_or T k d) (slice_get-get_or T k d h))).0

  pub are_the_table : AreTheTable C T columns
  are_the_table = record {
    fit = record {
      count = are.count;
      kinds = are.kinds;
      even = λ c d h.
          let l : c < length columns = omega (arith, are.count) in
          (columns_of_rows C columns T has_kinds are.cells cat.column_range.0).lengths (get_or columns c d) (in_at columns c (get_or columns c d) (slice_get-get_or columns c d l));
    };
    rows = rows_of_columns C columns T has_kinds are.cells wide cat.column_range.0;
    table = table_itself C T t;
  }

-- the rows of columns of the catalog's kinds are rows of the catalog
module _ (C : CatalogData) (columns : List Cells) (are : AreTableColumns C columns) (cells : All (λ (x : Cells). All (IsOfKind (kind_of x)) (values x)) columns) where
  of_kind : (i c : ℕ) → i < count_of columns → c < length C.columns → IsOfKind (column C c).kind (cell (row_of columns i) c)
  of_kind i c h l =
      let inside : c < length columns = omega (arith, are.count) in
      let (x, at) = exists_at columns c inside in
      let here : (d : Cells) → get_or columns c d ≡ x = λ d. get_or_from_slice_get columns c x d at in
      let kind : kind_of x ≡ (column C c).kind = ap kind_of (sym (here x)) ∙ are.kinds c x l in
      let long : length (values x) ≡ count_of columns = ap (λ (y : Cells). length (values y)) (sym (here x)) ∙ are.even c x l in
      let all : All (IsOfKind (kind_of x)) (values x) = subst (λ (y : Cells). All (IsOfKind (kind_of y)) (values y)) (here x) (cells c x inside) in
      let value : cell (row_of columns i) c ≡ cell (values x) i = get_or_map_in (λ (y : Cells). cell (values y) i) columns c (Value.Int (pos 0)) (cell (values x) i) inside (λ d. ap (λ (y : Cells). cell (values y) i) (here d)) in
      subst (IsOfKind (column C c).kind) (sym value) (subst (λ k. IsOfKind k (cell (values x) i)) kind (all i (Value.Int (pos 0)) (omega (arith, long, h))))

  pub rows_are : (r : Row) → IsIn r (rows_in columns) → IsRow C r
  rows_are r h =
      let x = in_map (row_of columns) (numbers_below (count_of columns)) r h in
      let i : ℕ = x.0 in
      let range = in_range 0 (count_of columns) i x.1 in
      let low : i < count_of columns = omega (arith, range.1) in
      subst (IsRow C) (sym x.2) (length-map columns (λ (y : Cells). cell (values y) i) ∙ are.count, λ c l. of_kind i c low l)
