use Rattle.std.proofs.Common.{length, sym, ap, subst, ◌∙◌}
use Rattle.cs_rows.specs.WalkedView.{WalkedData, IsWide, count_of}
use Rattle.cs_rows.proofs.WalkedLemmas.{length_rows, count_first, rows_wide}
use Rattle.cs_rows.proofs.walked.Walked.rows.Goals as goal

pub returns-clause-count : goal.returns-clause-count
returns-clause-count c =
    c.len.ensures ∙ count_first c.self.inside.columns.items c.index.result.now c.index.ensures c.self.invariant.some
    ∙ sym (length_rows c.self.inside.columns.items (count_of c.self.inside.columns.items)) ∙ ap (λ (w : WalkedData). length w.rows) c.self.view_is

pub returns-clause-wide : goal.returns-clause-wide
returns-clause-wide c = subst IsWide c.self.view_is (rows_wide c.self.inside.columns.items)
