-- Columns of cells, as those of a text and as those of a table.
use Rattle.std.proofs.Common.{◌≡◌, ℕ, ◌<◌, List, [], ◌∷◌, length, refl, sym, ap, ◌∙◌, arith}
use Rattle.std.proofs.lemmas.List.{get_or-map, length-map}
use Rattle.cs_schema.specs.CatalogData.{CatalogData, ColumnData, no_column}
use Rattle.cs_schema.specs.Rows.{Row}
use Rattle.cs_schema.specs.declared.cells.Cells.{Cells}
use Rattle.cs_schema.specs.declared.kinds.Kind.{Kind}
use Rattle.cs_schema.specs.declared.kinds.Kind.TheVariants as kind
use Rattle.cs_rows.specs.WalkedView.{count_of}
use Rattle.cs_recovery.specs.Columns.{AreColumnsOf, AreTableColumns}
use Rattle.cs_csv.specs.Fields.{Record, kind_at}
use Rattle.cs_csv.specs.Faults.{HoldsRows}
use Rattle.cs_csv.specs.Writing.{AreEven, row_count}
use Rattle.cs_csv.proofs.HeldLemmas.{held-count, held-even}
use Rattle.cs_csv.proofs.RecordLemmas.{cells_at-is, kind_at-is}

pub count-is : (cells : List Cells) → row_count cells ≡ count_of cells
count-is [] = refl
count-is (x ∷ xs) = refl

-- what holds the rows of a text is the columns of the table
pub table-columns : (C : CatalogData) (header : Record) (rows : List Record) (cells : List Cells) → HoldsRows C.columns header rows cells → AreTableColumns C cells
table-columns C header rows cells h =
    let count = held-count C.columns header rows cells h in
    record {
      count = count;
      kinds = λ c d l.
          let there : c < length cells = omega (arith, count) in
          sym (kind_at-is cells c d there) ∙ ap (λ (k : List Kind). kind_at k c) h.kinds ∙ get_or-map (λ (x : ColumnData). x.kind) C.columns c no_column kind.Int l;
      even = λ c d l.
          let there : c < length cells = omega (arith, count) in
          sym (ap length (cells_at-is cells c d there)) ∙ held-even C.columns header rows cells h c there ∙ count-is cells;
    }

-- the columns of a table have one length
pub even-columns : (C : CatalogData) (T : List Row) (columns : List Cells) → AreColumnsOf C T columns → AreEven columns
even-columns C T [] h c l = absurd (omega arith)
even-columns C T (x ∷ xs) h c l =
    let low : c < length C.columns = omega (arith, h.count) in
    let first : 0 < length C.columns = omega (arith, h.count) in
    let size = λ (i : ℕ) (k : i < length C.columns) (g : i < length (x ∷ xs)). ap length (cells_at-is (x ∷ xs) i x g ∙ h.cells i x k) ∙ length-map T _ in
    size c low l ∙ sym (size 0 first (omega arith))
