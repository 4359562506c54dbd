use Rattle.std.proofs.Common.{sym, ap, subst, ◌∙◌}
use Rattle.cs_rows.specs.TableView.{over}
use Rattle.cs_rows.specs.WalkedView.{AreColumns, walked_data}
use Rattle.cs_rows.proofs.TableLemmas.{none_borrowed}
use Rattle.cs_rows.proofs.table.Table.of_walk.Goals as goal

pub invariant_of-result : goal.invariant_of-result
invariant_of-result c = subst AreColumns (sym (ap (over c.into_columns.result.items) c.none.ensures ∙ none_borrowed c.into_columns.result.items)) c.into_columns.ensures.columns

pub returns : goal.returns
returns c = ap walked_data (ap (over c.into_columns.result.items) c.none.ensures ∙ none_borrowed c.into_columns.result.items) ∙ c.into_columns.ensures.rows
