-- Columns that all have the same length, and a catalog's kinds.
use Rattle.std.proofs.Common.{◌≡◌, ℕ, zero, suc, ◌<◌, List, [], ◌∷◌, length, map, get_or, Some, sym, ap, ◌∙◌, arith}
use Rattle.std.proofs.lemmas.List.{length-map, get_or-map}
use Rattle.std.proofs.lemmas.List.FromFn.{fill_by_all}
use Rattle.std.proofs.lemmas.Option.{get_or_from_slice_get, slice_get_within, slice_get-get_or}
use Rattle.cs_schema.specs.declared.cells.Cells.{Cells}
use Rattle.cs_schema.specs.declared.kinds.Kind.{Kind}
use Rattle.cs_schema.specs.Values.{values, kind_of}
use Rattle.cs_schema.specs.CatalogData.{CatalogData, ColumnData, column, no_column}
use Rattle.cs_schema.proofs.Lists.{at_in, in_at}
use Rattle.cs_rows.specs.WalkedView.{count_of, AreColumns}
use Rattle.cs_rows.proofs.WalkedLemmas.{count_first}

count_is : (columns : List Cells) (n : ℕ) → 0 < length columns → ((c : ℕ) (d : Cells) → c < length columns → length (values (get_or columns c d)) ≡ n) → count_of columns ≡ n
count_is [] n h k = absurd (omega arith)
count_is (x ∷ xs) n h k = k 0 x h

pub are_columns : (columns : List Cells) (n : ℕ) → 0 < length columns → ((c : ℕ) (d : Cells) → c < length columns → length (values (get_or columns c d)) ≡ n) → AreColumns columns
are_columns columns n some long = record {
  some = some;
  lengths = λ cells i.
      let at = at_in columns cells i in
      let inside = slice_get_within columns at.0 cells at.1 in
      ap (λ (x : Cells). length (values x)) (sym (get_or_from_slice_get columns at.0 cells cells at.1)) ∙ long at.0 cells inside ∙ sym (count_is columns n some long);
}

mapped_at : {X Y : Type 0} (f : X → Y) (xs : List X) (i : ℕ) (e y : Y) → i < length xs → ((d : X) → f (get_or xs i d) ≡ y) → get_or (map f xs) i e ≡ y
mapped_at f [] i e y h k = absurd (omega arith)
mapped_at f (x ∷ xs) zero e y h k = k x
mapped_at f (x ∷ xs) (suc i) e y h k = mapped_at f xs i e y (omega arith) k

pub same_kinds : (C : CatalogData) (columns : List Cells) → length columns ≡ length C.columns → ((c : ℕ) (d : Cells) → c < length columns → kind_of (get_or columns c d) ≡ (column C c).kind) → map kind_of columns ≡ map (λ (c : ColumnData). c.kind) C.columns
same_kinds C columns count kinds =
    let f : ℕ → Kind = λ c. (column C c).kind in
    let n : ℕ = length C.columns in
    fill_by_all f (map kind_of columns) n Kind.Int (length-map columns kind_of ∙ count) (λ c h. mapped_at kind_of columns c Kind.Int (column C c).kind (omega (arith, count)) (λ d. kinds c d (omega (arith, count))))
    ∙ sym (fill_by_all f (map (λ (c : ColumnData). c.kind) C.columns) n Kind.Int (length-map C.columns (λ (c : ColumnData). c.kind)) (λ c h. get_or-map (λ (x : ColumnData). x.kind) C.columns c no_column Kind.Int h))

-- each column is as long as the first
pub same_length : (columns : List Cells) → AreColumns columns → (k : ℕ) (cells first : Cells) → k < length columns → cells ≡ get_or columns k cells → first ≡ get_or columns 0 first → length (values cells) ≡ length (values first)
same_length columns are k cells first h e f =
    are.lengths cells (in_at columns k cells (slice_get-get_or columns k cells h ∙ ap Some (sym e)))
    ∙ sym (count_first columns first f are.some)

-- and has the kind of the catalog's column
pub same_kind : (C : CatalogData) (columns : List Cells) → map kind_of columns ≡ map (λ (c : ColumnData). c.kind) C.columns → (k : ℕ) (cells : Cells) → k < length columns → k < length C.columns → cells ≡ get_or columns k cells → kind_of cells ≡ (column C k).kind
same_kind C columns kinds k cells h g e =
    ap kind_of e
    ∙ sym (get_or-map kind_of columns k cells Kind.Int h)
    ∙ ap (λ (l : List Kind). get_or l k Kind.Int) kinds
    ∙ get_or-map (λ (c : ColumnData). c.kind) C.columns k no_column Kind.Int g
