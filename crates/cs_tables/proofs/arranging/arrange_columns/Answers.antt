use Rattle.std.proofs.Common.{◌≡◌, ◌<◌, List, ℕ, true, length, ap, sym, subst, ◌∙◌}
use Rattle.std.proofs.lemmas.List.{get_or_default}
use Rattle.cs_schema.specs.CatalogData.{no_column}
use Rattle.cs_csv.specs.Columns.{column}
use Rattle.cs_tables.specs.ByName.{column_named, has_column, old_column}
use Rattle.cs_tables.proofs.ArrangeLemmas.{arranged_more}
use Rattle.cs_tables.proofs.NameLemmas.{is_named}
use Rattle.cs_tables.proofs.arranging.arrange_columns.Goals as goal

pub column_named-place-requires : goal.column_named-place-requires
column_named-place-requires c =
    let low : c.loop-c.c < length c.args.new.now = c.loop-c-test.true in
    let is : c.index-new-c.result ≡ column c.args.new.now c.loop-c.c = c.index-new-c.is ∙ get_or_default c.args.new.now c.loop-c.c c.index-new-c.result no_column low in
    let name : c.as_str.result.now ≡ (column c.args.new.now c.loop-c.c).name = c.as_str.ensures.value ∙ ap (λ x. x.name) c.column.view_is ∙ ap (λ x. x.name) is in
    subst (λ (n : List ℕ). has_column c.args.old.now n ≡ true) (sym name) (is_named c.args.old.now c.args.new.now c.requires.named c.loop-c.c low)

pub loop-c-preserved : goal.loop-c-preserved
loop-c-preserved c =
    let old = c.args.old.now in
    let new = c.args.new.now in
    let low : c.loop-c.c < length c.args.new.now = c.loop-c-test.true in
    let is : c.index-new-c.result ≡ column c.args.new.now c.loop-c.c = c.index-new-c.is ∙ get_or_default c.args.new.now c.loop-c.c c.index-new-c.result no_column low in
    let name : c.as_str.result.now ≡ (column c.args.new.now c.loop-c.c).name = c.as_str.ensures.value ∙ ap (λ x. x.name) c.column.view_is ∙ ap (λ x. x.name) is in
    let place : c.column_named-place.result ≡ old_column c.args.old.now c.args.new.now c.loop-c.c = c.column_named-place.ensures.number ∙ ap (λ (n : List ℕ). column_named c.args.old.now n) name in
    let more = arranged_more old new c.requires.named c.requires.differ c.args.columns.items c.loop-c.columns.items c.loop-c.arranged.items c.loop-c.c low c.loop-c.invariant c.replace-cells.result c.index_mut.result.now c.replace-cells.new.dest in
    rw (c.in_ok-push.ensures.items, place) (more (c.replace-cells.ensures.value ∙ rw place at c.index_mut.ensures.value))
