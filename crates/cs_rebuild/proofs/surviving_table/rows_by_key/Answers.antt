use Rattle.std.proofs.Common.{◌≡◌, ◌<◌, ℕ, All, length, map, sym, ap, subst, ◌∙◌}
use Rattle.rayon.proofs.ListFacts.{IfOk-then}
use Rattle.cs_order.specs.Orders.{row_at}
use Rattle.cs_recovery.specs.Columns.{AreColumnsOf}
use Rattle.cs_rows.specs.TableView.{over}
use Rattle.cs_rows.specs.WalkedView.{WalkedData, count_of}
use Rattle.cs_rows.proofs.WalkedLemmas.{length_rows}
use Rattle.cs_rebuild.proofs.surviving_table.rows_by_key.Goals as goal

pub take_columns-requires-clause-below : goal.take_columns-requires-clause-below
take_columns-requires-clause-below g c =
    let all = over c.into_columns-owned.result.0.items c.into_columns-owned.result.1 in
    let many : length c.args.walked.rows ≡ count_of all = sym (ap (λ (w : WalkedData). length w.rows) c.into_columns-owned.ensures.same) ∙ length_rows all (count_of all) in
    subst (λ n. All (λ (i : ℕ). i < n) c.as_slice.result.now) many (subst (All (λ (i : ℕ). i < length c.args.walked.rows)) (sym c.as_slice.ensures.value) c.in_ok-numbers.ensures.below)

pub take_columns-requires-clause-kinds : goal.take_columns-requires-clause-kinds
take_columns-requires-clause-kinds g c = ap (λ (w : WalkedData). w.kinds) c.into_columns-owned.ensures.same ∙ c.requires.kinds

pub returns : goal.returns
returns g c =
    let rows = c.args.walked.rows in
    IfOk-then c.take_columns.result _ _ c.take_columns.ensures (λ columns h.
    subst (λ T. AreColumnsOf c.args.catalog.now T columns.items) (ap (λ (w : WalkedData). map (row_at w.rows) c.as_slice.result.now) c.into_columns-owned.ensures.same ∙ ap (map (row_at rows)) c.as_slice.ensures.value ∙ c.in_ok-numbers.ensures.rows) h)
