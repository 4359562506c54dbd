use Rattle.cs_schema.proofs.SortColumns.{first_exists}
use Rattle.cs_schema.proofs.catalog.Catalog.first_sort_column.Goals as goal

pub returns-clause-exists : goal.returns-clause-exists
returns-clause-exists c =
    first_exists c.args.self.now c.sort_columns.ensures.rules c.args.p c.requires c.sort_columns.result.now c.sort_columns.ensures.sort
