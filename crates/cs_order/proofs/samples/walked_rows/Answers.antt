use Rattle.std.proofs.Common.{rules, ◌≡◌, ◌<◌, length, sym, ap, ◌∙◌, arith}
use Rattle.std.proofs.lemmas.Bool.{eqb-false}
use Rattle.cs_schema.specs.CatalogData.{CatalogData, ColumnData, column, no_column}
use Rattle.cs_rows.specs.WalkedView.{WalkedData}
use Rattle.cs_order.proofs.SampleColumns.{are_columns, same_kinds, same_length, same_kind}
use Rattle.cs_order.proofs.SortedNumbers.{any_default}
use Rattle.cs_order.proofs.samples.walked_rows.Goals as goal

pub returns-then-len-rows-clause-refused : goal.returns-then-len-rows-clause-refused
returns-then-len-rows-clause-refused c = λ are kinds.
    let inside : c.loop-c.c < length c.args.columns.items = omega (arith, c.len-c-end.ensures, c.loop-c-test.true) in
    c.if-len-rows.true (c.len-in-loop-c.ensures ∙ same_length c.args.columns.items are c.loop-c.c c.index-in-loop-c.result.now c.index.result.now inside c.index-in-loop-c.ensures c.index.ensures ∙ sym c.len-rows.ensures)

pub returns-then-ne-clause-refused : goal.returns-then-ne-clause-refused
returns-then-ne-clause-refused c = λ are kinds.
    let view = ap (λ (C : CatalogData). length C.columns) c.catalog.view_is in
    let inside : c.loop-c.c < length c.args.columns.items = omega (arith, c.len-c-end.ensures, c.loop-c-test.true) in
    let there : c.loop-c.c < length c.args.catalog.now.columns = omega (arith, view) in
    let same = same_kind c.args.catalog.now c.args.columns.items kinds c.loop-c.c c.index-in-loop-c-2.result.now inside there c.index-in-loop-c-2.ensures in
    let kept : c.loop-c.c < length c.catalog.inside.columns.items = omega (arith, view) in
    let named : (column c.args.catalog.now c.loop-c.c).kind ≡ c.behind-catalog.inside.kind =
    sym (ap (λ (C : CatalogData). (column C c.loop-c.c).kind) c.catalog.view_is)
    ∙ ap (λ (x : ColumnData). x.kind) (any_default c.catalog.inside.columns.items c.loop-c.c no_column c.index-in-loop-c-3.result.now kept ∙ sym c.index-in-loop-c-3.ensures ∙ sym c.behind-catalog.view_is) in
    let e : c.kind.result ≡ c.behind-catalog.inside.kind = c.kind.ensures ∙ same ∙ named in
    search (rules, e, c.ne.ensures, c.if-ne.true)

pub from_columns-requires : goal.from_columns-requires
from_columns-requires c =
    let ne = eqb-false _ _ (sym c.is_empty.ensures ∙ c.if-is_empty.false) in
    let some : 0 < length c.args.columns.items = omega arith in
    are_columns c.args.columns.items c.len-rows.result some
    (λ k d h. (c.loop-c.invariant k d (omega (arith, c.len-c-end.ensures, c.loop-c-test.false))).0)

pub returns-clause-kinds : goal.returns-clause-kinds
returns-clause-kinds c =
    let view = ap (λ (C : CatalogData). length C.columns) c.catalog.view_is in
    let long : length c.args.columns.items ≡ length c.args.catalog.now.columns = omega (arith, view) in
    ap (λ (w : WalkedData). w.kinds) c.from_columns.ensures
    ∙ same_kinds c.args.catalog.now c.args.columns.items long (λ k d h. (c.loop-c.invariant k d (omega (arith, c.len-c-end.ensures, c.loop-c-test.false))).1)
