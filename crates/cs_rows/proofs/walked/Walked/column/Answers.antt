use Rattle.std.proofs.Common.{◌<◌, length, map, ap, ◌∙◌, arith}
use Rattle.std.proofs.lemmas.List.{length-map}
use Rattle.cs_schema.specs.Values.{kind_of}
use Rattle.cs_schema.specs.Rows.{Row, cell}
use Rattle.cs_rows.specs.WalkedView.{WalkedData}
use Rattle.cs_rows.proofs.WalkedLemmas.{column_of_rows}
use Rattle.cs_rows.proofs.walked.Walked.column.Goals as goal

pub returns-clause-cells : goal.returns-clause-cells
returns-clause-cells c =
    let same = ap (λ (w : WalkedData). length w.kinds) c.self.view_is in
    let h : c.args.c < length c.self.inside.columns.items = omega (arith, length-map c.self.inside.columns.items kind_of) in
    column_of_rows c.self.inside.columns.items c.args.c c.index.result.now h c.index.ensures c.self.invariant
    ∙ ap (λ (w : WalkedData). map (λ (row : Row). cell row c.args.c) w.rows) c.self.view_is
