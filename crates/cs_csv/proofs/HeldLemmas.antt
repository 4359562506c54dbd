-- What columns that hold rows are, for their callers.
use Rattle.std.proofs.Common.{◌≡◌, ℕ, ◌<◌, List, [], length, arith, sym, ap, ◌∙◌}
use Rattle.std.proofs.lemmas.List.{get_or-map, length-map}
use Rattle.cs_csv.specs.Columns.{column}
use Rattle.cs_schema.specs.CatalogData.{ColumnData}
use Rattle.cs_schema.specs.declared.cells.Value.{Value}
use Rattle.cs_csv.specs.Fields.{IsCellOf, Record, cell_of, field}
use Rattle.cs_csv.specs.Faults.{HoldsRows, cells_at, row}
use Rattle.cs_csv.specs.RoundTrip.{CellsFit}
use Rattle.cs_schema.specs.Values.{IsOfKind}
use Rattle.cs_csv.specs.Writing.{AreEven, value_at}
use Rattle.cs_schema.specs.declared.cells.Cells.{Cells}
use Rattle.cs_schema.specs.declared.kinds.Kind.{Kind}
use Rattle.cs_schema.specs.declared.kinds.Kind.TheVariants as kind

is-value : (k : Kind) (text : List ℕ) → IsCellOf k text → IsOfKind k (cell_of k text)
is-value kind.Int text h = h.2
is-value kind.Text text h = h

module _ (columns : List ColumnData) (header : Record) (rows : List Record) (cells : List Cells) (h : HoldsRows columns header rows cells) where
  pub held-count : length cells ≡ length columns
  held-count = sym (length-map cells _) ∙ ap length h.kinds ∙ length-map columns _

  held-length : (c : ℕ) → c < length columns → length (cells_at cells c) ≡ length rows
  held-length c l =
      let place = h.header_holds.each c l in
      ap length (h.cells_hold c place.0 l place.1 place.2) ∙ length-map rows _

  pub held-even : AreEven cells
  held-even c l =
      let here : c < length columns = omega (arith, held-count) in
      let first : 0 < length columns = omega arith in
      held-length c here ∙ sym (held-length 0 first)

  pub held-fit : 0 < length columns → CellsFit columns cells
  held-fit some = record {
    some = some;
    count = held-count;
    kinds = λ c n lc ln.
        let place = h.header_holds.each c lc in
        let low : n < length rows = omega (arith, held-length 0 some) in
        let is : value_at (cells_at cells c) n ≡ cell_of (column columns c).kind (field (row rows n) place.0) =
        ap (λ (v : List Value). value_at v n) (h.cells_hold c place.0 lc place.1 place.2) ∙ get_or-map (λ (r : Record). cell_of (column columns c).kind (field r place.0)) rows n [] _ low in
        rw is (is-value (column columns c).kind (field (row rows n) place.0) ((h.rows_hold n low).1 c place.0 lc place.1 place.2));
  }
