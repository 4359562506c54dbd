use Rattle.std.proofs.Common.{length, sym, ap, ◌∙◌, arith}
use Rattle.std.specs.Prelude.{slice_index_or}
use Rattle.cs_rows.specs.TableView.{all_columns, over}
use Rattle.cs_rows.specs.WalkedView.{WalkedData, count_of}
use Rattle.cs_rows.proofs.TableLemmas.{count}
use Rattle.cs_rows.proofs.WalkedLemmas.{length_rows, count_first}
use Rattle.cs_rows.proofs.table.Table.rows.Goals as goal

pub column_at-requires : goal.column_at-requires
column_at-requires c = omega (arith, c.self.invariant.some, count c.self.inside.owned.items c.self.inside.borrowed, ap length c.deref.ensures.value)

pub returns : goal.returns
returns c =
    let all = all_columns c.self.inside in
    let first = c.column_at.ensures ∙ (λ i. slice_index_or (over (c.deref.ensures.value i) c.self.inside.borrowed) 0 c.column_at.result.now) in
    c.len.ensures ∙ count_first all c.column_at.result.now first c.self.invariant.some
    ∙ sym (length_rows all (count_of all)) ∙ ap (λ (w : WalkedData). length w.rows) c.self.view_is
