use Rattle.std.proofs.Common.{◌≡◌, List, ap, sym, subst, ◌∙◌}
use Rattle.std.specs.Prelude.{IfOk}
use Rattle.cs_schema.specs.CatalogData.{CatalogData, ColumnData}
use Rattle.cs_csv.specs.Columns.{NamesDiffer}
use Rattle.cs_tables.specs.ByName.{AreArranged}
use Rattle.cs_tables.proofs.CatalogNames.{catalog_names}
use Rattle.cs_tables.proofs.arranging.arrange.Goals as goal

pub arrange_columns-requires-clause-differ : goal.arrange_columns-requires-clause-differ
arrange_columns-requires-clause-differ c =
    let news : c.deref-2.result.now ≡ c.args.new.now.columns = c.deref-2.ensures.value ∙ ap (λ (C : CatalogData). C.columns) c.new.view_is in
    subst NamesDiffer (sym news) (catalog_names c.args.new.now c.projection_count-2.ensures.rules)

pub returns : goal.returns
returns c =
    let olds : c.deref.result.now ≡ c.args.old.now.columns = c.deref.ensures.value ∙ ap (λ (C : CatalogData). C.columns) c.old.view_is in
    let news : c.deref-2.result.now ≡ c.args.new.now.columns = c.deref-2.ensures.value ∙ ap (λ (C : CatalogData). C.columns) c.new.view_is in
    subst (λ (o : List ColumnData). IfOk c.arrange_columns.result (λ arranged. AreArranged o c.args.new.now.columns c.args.columns.items arranged.items)) olds
    (subst (λ (n : List ColumnData). IfOk c.arrange_columns.result (λ arranged. AreArranged c.deref.result.now n c.args.columns.items arranged.items)) news c.arrange_columns.ensures)
