use Rattle.std.proofs.Common.{◌≡◌, ◌<◌, length, map, sym, ap, ◌∙◌, Some, arith}
use Rattle.std.specs.Prelude.{slice_get, slice_index_or}
use Rattle.std.proofs.lemmas.List.{length-map}
use Rattle.std.proofs.lemmas.Option.{slice_get-get_or}
use Rattle.std.proofs.Math.ListN.{get_or-map}
use Rattle.cs_schema.specs.Values.{kind_of}
use Rattle.cs_schema.specs.Rows.{Row, cell}
use Rattle.cs_rows.specs.TableView.{all_columns, over}
use Rattle.cs_rows.specs.WalkedView.{WalkedData}
use Rattle.cs_rows.proofs.WalkedLemmas.{column_of_rows}
use Rattle.cs_rows.proofs.TableLemmas.{count}
use Rattle.cs_rows.proofs.table.Table.column.Goals as goal

pub column_at-requires : goal.column_at-requires
column_at-requires c =
    let all = all_columns c.self.inside in
    let same = ap (λ (w : WalkedData). length w.kinds) c.self.view_is in
    omega (arith, same, c.requires, length-map all kind_of, count c.self.inside.owned.items c.self.inside.borrowed, ap length c.deref.ensures.value)

-- the column is one of the table's columns
there : (c : goal.After-column_at) → c.column_at.result.now ≡ slice_index_or (all_columns c.self.inside) c.args.c c.column_at.result.now
there c = c.column_at.ensures ∙ (λ i. slice_index_or (over (c.deref.ensures.value i) c.self.inside.borrowed) c.args.c c.column_at.result.now)

inside : (c : goal.After-column_at) → c.args.c < length (all_columns c.self.inside)
inside c = let same = ap (λ (w : WalkedData). length w.kinds) c.self.view_is in omega (arith, same, c.requires, length-map (all_columns c.self.inside) kind_of)

pub returns-clause-kind : goal.returns-clause-kind
returns-clause-kind c =
    let all = all_columns c.self.inside in
    let x = c.column_at.result.now in
    ap (λ (w : WalkedData). slice_get w.kinds c.args.c) (sym c.self.view_is)
    ∙ slice_get-get_or (map kind_of all) c.args.c (kind_of x) (let long = length-map all kind_of in let low = inside c in omega (arith, long, low))
    ∙ ap Some (get_or-map kind_of all c.args.c x ∙ ap kind_of (sym (there c)))

pub returns-clause-cells : goal.returns-clause-cells
returns-clause-cells c =
    column_of_rows (all_columns c.self.inside) c.args.c c.column_at.result.now (inside c) (there c) c.self.invariant
    ∙ ap (λ (w : WalkedData). map (λ (row : Row). cell row c.args.c) w.rows) c.self.view_is
