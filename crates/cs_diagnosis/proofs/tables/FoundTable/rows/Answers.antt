use Rattle.std.proofs.Common.{sym, ap, ◌∙◌, subst}
use Rattle.cs_rows.specs.WalkedView.{AreColumns, count_of}
use Rattle.cs_diagnosis.proofs.RowTotals.{row_total}
use Rattle.cs_diagnosis.proofs.tables.FoundTable.rows.Goals as goal

pub row_count-requires : goal.row_count-requires
row_count-requires c = subst AreColumns (sym c.as_slice.ensures.value) c.args.self.now.even

pub returns : goal.returns
returns c = c.row_count.ensures ∙ ap count_of c.as_slice.ensures.value ∙ sym (row_total c.args.self.now.columns.items)
