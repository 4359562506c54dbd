use Rattle.std.proofs.Common.{◌≡◌, ◌≤◌, length, nat_le, true, None, ap, ◌∙◌, ◌&&◌}
use Rattle.std.proofs.lemmas.Bool.{and_parts, leb-true}
use Rattle.std.specs.List.{list_all}
use Rattle.cs_schema.specs.Document.{Document, is_from_to}
use Rattle.cs_schema.specs.Rules.{is_name, is_length_from_to, least_broken, document_rules}
use Rattle.cs_schema.proofs.RulesKept.{all_kept, table_named, columns_named, projections_named}
use Rattle.cs_catalog.proofs.build.catalog_of.Goals as goal

module _ (d : Document) (h : least_broken 3 document_rules d ≡ None) where
  sizes : ((is_from_to 1 16 d.site_count && is_length_from_to 1 32 d.columns) ≡ true) × (is_length_from_to 1 8 d.projections ≡ true)
  sizes = and_parts _ _ (all_kept d h).1.0

  few_columns : length d.columns ≤ 32
  few_columns = leb-true _ _ (and_parts (nat_le 1 (length d.columns)) (nat_le (length d.columns) 32) (and_parts (is_from_to 1 16 d.site_count) _ sizes.0).1).1

  few_projections : length d.projections ≤ 8
  few_projections = leb-true _ _ (and_parts (nat_le 1 (length d.projections)) (nat_le (length d.projections) 8) sizes.1).1

pub columns_of-requires : goal.columns_of-requires
columns_of-requires c =
    rw c.deref.ensures.value (ap (λ d. list_all (λ x. is_name x.name) d.columns) c.document.view_is ∙ columns_named c.args.document.now c.requires)

pub projections_of-requires-clause-columns : goal.projections_of-requires-clause-columns
projections_of-requires-clause-columns c = few_columns c.args.document.now c.requires

pub projections_of-requires-clause-projections : goal.projections_of-requires-clause-projections
projections_of-requires-clause-projections c = few_projections c.args.document.now c.requires

pub projections_of-requires-clause-names : goal.projections_of-requires-clause-names
projections_of-requires-clause-names c = projections_named c.args.document.now c.requires

pub projections_of-requires-clause-cuts : goal.projections_of-requires-clause-cuts
projections_of-requires-clause-cuts c = (all_kept c.args.document.now c.requires).1.1.1.1.1.1.1.1.0

pub name_of-requires : goal.name_of-requires
name_of-requires c = ap (λ d. is_name d.table_name) c.document.view_is ∙ table_named c.args.document.now c.requires

pub column_place-requires : goal.column_place-requires
column_place-requires c =
    rw (c.deref-2.ensures.value, ap (λ d. length d.columns) c.document.view_is) (few_columns c.args.document.now c.requires)
