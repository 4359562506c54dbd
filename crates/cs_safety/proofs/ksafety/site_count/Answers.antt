use Rattle.cs_schema.specs.CatalogView.{catalog_data}
use Rattle.cs_schema.proofs.CatalogFacts.{rules_hold}
use Rattle.cs_safety.proofs.ksafety.site_count.Goals as goal

pub returns-clause-rules : goal.returns-clause-rules
returns-clause-rules c = rw (← c.catalog.view_is) (rules_hold (catalog_data c.catalog.inside) c.catalog.invariant)
