use Rattle.std.proofs.Common.{◌≡◌, ◌++◌, ◌∷◌, [], List, ap, subst, ◌∙◌}
use Rattle.std.specs.Result.{OnOk}
use Rattle.cs_schema.specs.declared.cells.Value.{Value}
use Rattle.cs_schema.specs.Values.{values}
use Rattle.cs_schema.specs.Rows.{cell}
use Rattle.cs_rows.proofs.RowLemmas.{column_cell}
use Rattle.cs_rows.proofs.columns.push_cell.Goals as goal

pub returns-clause-ok : goal.returns-clause-ok
returns-clause-ok c =
    subst (λ (v : Value). OnOk c.push_cell.result (values c.push_cell.new.self ≡ values c.args.cells.now ++ v ∷ []))
    (ap (λ (l : List Value). cell l c.args.row) c.column.ensures.values ∙ column_cell c.args.image.now.image c.args.row c.args.j c.requires.row)
    c.push_cell.ensures.ok
