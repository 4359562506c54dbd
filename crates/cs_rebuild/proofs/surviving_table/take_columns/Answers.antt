use Rattle.std.proofs.Common.{◌≡◌, ◌≢◌, ◌<◌, ◌+◌, ℕ, List, length, map, sym, ap, subst, ◌∙◌, arith, get_or, get_or-set_other, Option, None, Some, All}
use Rattle.std.specs.Option.{unwrap_or}
use Rattle.std.specs.Prelude.{slice_index}
use Rattle.std.proofs.Math.ListN.{length-set}
use Rattle.std.proofs.lemmas.List.{length-map, length-append, get_or_read}
use Rattle.std.proofs.lemmas.Option.{slice_get-get_or}
use Rattle.cs_schema.specs.CatalogData.{CatalogData, ColumnData, column}
use Rattle.cs_schema.specs.declared.cells.Cells.{Cells}
use Rattle.cs_schema.specs.declared.cells.Value.{Value}
use Rattle.cs_schema.specs.Rows.{Row, cell}
use Rattle.cs_schema.specs.Values.{kind_of, values}
use Rattle.cs_rows.specs.TableView.{over}
use Rattle.cs_rows.specs.WalkedView.{AreColumns, count_of, rows_of}
use Rattle.cs_rows.proofs.TableLemmas.{count, each}
use Rattle.cs_rows.proofs.WalkedLemmas.{column_of_rows, length_rows}
use Rattle.cs_order.proofs.Filling.{lists_more}
use Rattle.cs_order.specs.Orders.{row_at}
use Rattle.cs_rebuild.specs.Walking.{IsColumnOf}
use Rattle.cs_schema.proofs.Lists.{slice_get_map}
use Rattle.cs_rebuild.proofs.Encodings.{kind_of_column, cells_are}
use Rattle.cs_rebuild.proofs.PickedColumns.{cells_of_rows}
use Rattle.cs_rebuild.proofs.surviving_table.take_columns.Goals as goal

module _ (C : CatalogData) (owned : List Cells) (borrowed : List (Option Cells)) (are : AreColumns (over owned borrowed)) (kinds : map kind_of (over owned borrowed) ≡ map (λ (c : ColumnData). c.kind) C.columns) where
  abbrev rows : List Row
  rows = rows_of (over owned borrowed) (count_of (over owned borrowed))

  wide : length owned ≡ length C.columns
  wide = sym (count owned borrowed) ∙ sym (length-map (over owned borrowed) kind_of) ∙ ap length kinds ∙ length-map C.columns (λ (c : ColumnData). c.kind)

  -- the cells of a column: the borrowed ones, or else the owned ones
  module _ (n : ℕ) (own : Cells) (other : Option Cells) (h : n < length C.columns) (is : (d : Cells) → own ≡ get_or owned n d) (other_is : other ≡ get_or borrowed n None) where
    abbrev cells : Cells
    cells = unwrap_or other own

    inside : n < length (over owned borrowed)
    inside = omega (arith, h, wide, count owned borrowed)

    at : cells ≡ get_or (over owned borrowed) n cells
    at = (λ i. unwrap_or (other_is i) (is cells i)) ∙ sym (each owned borrowed n cells (omega (arith, h, wide)))

    held : values cells ≡ map (λ (row : Row). cell row n) rows
    held = column_of_rows (over owned borrowed) n cells inside at are

    kind : kind_of cells ≡ (column C n).kind
    kind = kind_of_column C (map kind_of (over owned borrowed)) n (kind_of cells) kinds h (slice_get_map kind_of (over owned borrowed) n cells (slice_get-get_or (over owned borrowed) n cells inside ∙ ap Some (sym at)))

    module _ (numbers : List ℕ) (below : All (λ (i : ℕ). i < count_of (over owned borrowed)) numbers) where
      there : (k : ℕ) → k < length numbers → slice_index numbers k < length (values cells)
      there k l =
          subst (λ (m : ℕ). slice_index numbers k < m) (sym (ap length held ∙ length-map rows (λ (row : Row). cell row n) ∙ length_rows (over owned borrowed) (count_of (over owned borrowed)))) (below k 0 l)

      picked : (x : Cells) → kind_of x ≡ kind_of cells → values x ≡ map (cell (values cells)) numbers → IsColumnOf C (map (row_at rows) numbers) n x
      picked x k v = (
        k ∙ kind,
        v ∙ ap (λ (l : List Value). map (cell l) numbers) held
            ∙ cells_are rows n numbers (λ k l. subst (λ (m : ℕ). slice_index numbers k < m) (sym (length_rows (over owned borrowed) (count_of (over owned borrowed)))) (below k 0 l))
            ∙ cells_of_rows rows n numbers,
      )

pub index_mut-requires : goal.index_mut-requires
index_mut-requires c =
    let whole = wide c.args.catalog.now c.args.owned.items c.args.borrowed.now c.requires.columns c.requires.kinds in
    omega (arith, whole, c.loop-c.invariant.owned, c.loop-c.owned.ok.0, c.loop-c-test.true, c.loop-c.auto.c-end, c.column_count-c-end.ensures.count)

pub take_column-requires : goal.take_column-requires
take_column-requires c =
    let owned = c.args.owned.items in
    let whole = wide c.args.catalog.now owned c.args.borrowed.now c.requires.columns c.requires.kinds in
    let h : c.loop-c.c < length c.args.catalog.now.columns = omega (arith, c.loop-c-test.true, c.loop-c.auto.c-end, c.column_count-c-end.ensures.count) in
    there c.args.catalog.now owned c.args.borrowed.now c.requires.columns c.requires.kinds c.loop-c.c c.replace-own.result _ h
    (λ d. c.replace-own.ensures.value ∙ get_or_read c.loop-c.owned.items c.loop-c.c c.index_mut.result.now (omega (arith, h, whole, c.loop-c.invariant.owned)) c.index_mut.ensures.value d ∙ c.loop-c.invariant.rest c.loop-c.c d (omega arith))
    c.column.ensures c.args.numbers.now c.requires.below

pub loop-c-preserved : goal.loop-c-preserved
loop-c-preserved c =
    let C = c.args.catalog.now in
    let owned = c.args.owned.items in
    let n = c.loop-c.c in
    let whole = wide C owned c.args.borrowed.now c.requires.columns c.requires.kinds in
    let h : n < length C.columns = omega (arith, c.loop-c-test.true, c.loop-c.auto.c-end, c.column_count-c-end.ensures.count) in
    let one = picked C owned c.args.borrowed.now c.requires.columns c.requires.kinds n c.replace-own.result _ h
    (λ d. c.replace-own.ensures.value ∙ get_or_read c.loop-c.owned.items n c.index_mut.result.now (omega (arith, h, whole, c.loop-c.invariant.owned)) c.index_mut.ensures.value d ∙ c.loop-c.invariant.rest n d (omega arith))
    c.column.ensures c.args.numbers.now c.requires.below c.in_ok-take_column.field-0 c.in_ok-take_column.ensures.kind c.in_ok-take_column.ensures.cells in
    let more = c.in_ok-push.ensures.items in
    record {
      owned = length-set c.loop-c.owned.items n c.replace-own.new.dest ∙ c.loop-c.invariant.owned;
      rest = λ k d l. let ne : k ≢ n = omega arith in get_or-set_other c.loop-c.owned.items n k c.replace-own.new.dest d ne ∙ c.loop-c.invariant.rest k d (omega arith);
      count = ap length more ∙ length-append c.loop-c.columns.items _ ∙ ap (λ m. m + 1) c.loop-c.invariant.count;
      each = λ k d l.
          lists_more d (IsColumnOf C (map (row_at (rows C owned c.args.borrowed.now c.requires.columns c.requires.kinds)) c.args.numbers.now)) c.loop-c.columns.items c.push.new.self.items c.in_ok-take_column.field-0 n more c.loop-c.invariant.count (λ m b. c.loop-c.invariant.each m d b) one k l;
    }
