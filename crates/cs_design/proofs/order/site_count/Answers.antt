use Rattle.cs_schema.specs.CatalogView.{catalog_data}
use Rattle.cs_schema.proofs.CatalogFacts.{rules_hold}
use Rattle.cs_design.proofs.order.site_count.Goals as goal

pub returns-clause-few : goal.returns-clause-few
returns-clause-few c = (rules_hold (catalog_data c.catalog.inside) c.catalog.invariant).site_range.1

pub returns-clause-rules : goal.returns-clause-rules
returns-clause-rules c = rw (← c.catalog.view_is) (rules_hold (catalog_data c.catalog.inside) c.catalog.invariant)
