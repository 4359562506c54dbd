-- The files of a new store: its rows, and survivors if there are none.
use Rattle.std.proofs.Common.{◌≡◌, ℕ, ◌≤◌, ◌+◌, zero, suc, List, [], ◌∷◌, ◌++◌, length, refl, sym, ap, subst, ◌∙◌, inl, None, arith, Result, Ok, Err}
use Rattle.std.specs.Prelude.{IfOk, IfErr}
use Rattle.std.specs.List.{range_with_len}
use Rattle.std.specs.Cmp.{nat_cmp_is}
use Rattle.std.specs.Ordering.{nat_cmp}
use Rattle.std.specs.declared.cmp.Ordering.TheVariants.{Greater}
use Rattle.std.proofs.lemmas.Option.{slice_get_within, get_or_from_slice_get}
use Rattle.cs_store.specs.declared.fault.Fault.{Fault}
use Rattle.cs_store.specs.FileSet.{Files, contents_of}
use Rattle.cs_schema.specs.declared.cells.Cells.{Cells}
use Rattle.cs_schema.specs.declared.file_name.FileName.{FileName}
use Rattle.cs_schema.specs.CatalogData.{CatalogData}
use Rattle.cs_schema.specs.CatalogRules.{IsCatalog}
use Rattle.cs_schema.specs.Lists.{IsIn}
use Rattle.cs_schema.specs.Order.{by_order, placed}
use Rattle.cs_schema.specs.Rows.{Row, IsRow}
use Rattle.cs_schema.specs.Values.{values}
use Rattle.cs_schema.proofs.Lists.{at_in}
use Rattle.cs_rows.specs.Columns.{ColumnsFit}
use Rattle.cs_rows.specs.Survivors.{SurvivorsData, contents_of as held_by, no_survivors}
use Rattle.cs_rows.specs.WalkedView.{AreColumns, WalkedData}
use Rattle.cs_order.specs.Tables.{table_of}
use Rattle.cs_order.proofs.SortedNumbers.{range_more}
use Rattle.cs_recovery.specs.BuildAnswers.{every_site, no_files, build_fault, IsBuildAnswer, BuildClauses}
use Rattle.cs_recovery.specs.Columns.{AreTableColumns}
use Rattle.cs_recovery.specs.Expected.{written}
use Rattle.cs_recovery.proofs.Built.{none_survives, nothing_read, nothing_same, built_table, built_fits, build_clauses}
use Rattle.cs_recovery.proofs.Read.{layers}
use Rattle.cs_rebuild.specs.Steps.{AreRead, HoldsTable, row_fault}

-- ---- the sites

after_all : (a n x : ℕ) → a + n ≤ x → placed nat_cmp x (range_with_len a n) ≡ range_with_len a n ++ x ∷ []
after_all a zero x h = refl
after_all a (suc n) x h =
    let later : nat_cmp x a ≡ Greater = sym (nat_cmp_is x a Greater (omega arith)) in
    ap (λ o. by_order o (x ∷ range_with_len a (suc n)) (range_with_len a (suc n)) (a ∷ placed nat_cmp x (range_with_len (a + 1) n))) later
    ∙ ap (λ l. a ∷ l) (after_all (a + 1) n x (omega arith))

-- one more site after the first n
pub one_more_site : (n : ℕ) → placed nat_cmp (n + 1) (range_with_len 1 n) ≡ range_with_len 1 (n + 1)
one_more_site n = after_all 1 n (n + 1) (omega arith) ∙ sym (range_more 1 n (n + 1) (omega arith))

-- ---- columns

module _ (C : CatalogData) (columns : List Cells) (are : AreTableColumns C columns) where
  pub columns_fit : ColumnsFit C columns
  columns_fit = record { count = are.count; kinds = are.kinds }

  pub columns_even : 1 ≤ length C.columns → AreColumns columns
  columns_even h = record {
    some = omega (arith, are.count, h);
    lengths = λ cells i.
        let at = at_in columns cells i in
        let b = slice_get_within columns at.0 cells at.1 in
        ap (λ (x : Cells). length (values x)) (sym (get_or_from_slice_get columns at.0 cells cells at.1)) ∙ are.even at.0 cells (omega (arith, b, are.count));
  }

-- ---- survivors

module _ (C : CatalogData) (cat : IsCatalog C) where
  pub none_read : (v : SurvivorsData) → v ≡ no_survivors C → AreRead C no_files (every_site C) v
  none_read v e =
      subst (AreRead C no_files (every_site C)) (sym e) (record {
        reads = nothing_read C cat no_files (held_by (no_survivors C));
        catalog = refl;
        images_there = λ p s h. absurd (none_survives C cat (FileName.Seg p s) h);
        joins_there = λ p s q h. absurd (none_survives C cat (FileName.Jix p s q) h);
      })

  module _ (w : WalkedData) (are : (row : Row) → IsIn row w.rows → IsRow C row) where
    pub held_afresh : (v : SurvivorsData) → row_fault C w.rows ≡ None → HoldsTable C no_files (every_site C) v w
    held_afresh v none = record {
      table = built_table C cat (layers C cat) w.rows are none;
      fits = built_fits C cat (layers C cat) w.rows are none;
      reads = nothing_read C cat no_files (held_by v);
      same = nothing_same C cat (held_by v) (table_of C w.rows);
    }

  -- the files that were written, or out of memory, is the answer
  pub built_answer : (rows : List Row) (v : SurvivorsData) → build_fault C rows ≡ None → (r : Result Files Fault)
      → IfOk r (λ out. (n : FileName) → contents_of out n ≡ written C (every_site C) (held_by v) (table_of C rows) n) → IfErr r (λ f. f ≡ Fault.Memory) → IsBuildAnswer C rows r
  built_answer rows v none (Ok out) files m = (none, record { contents = held_by v; reads = nothing_read C cat no_files (held_by v); files = files })
  built_answer rows v none (Err e) files m = inl m

  pub build_ends : (rows : List Row) → ((row : Row) → IsIn row rows → IsRow C row) → (r : Result Files Fault) → IsBuildAnswer C rows r → BuildClauses C rows r
  build_ends rows are r a = build_clauses C cat (layers C cat) rows are r a
