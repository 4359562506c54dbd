-- The rules of a catalog that are asked of each projection.
use Rattle.std.specs.Prelude.{Bool}
use Rattle.cs_catalog.specs.declared.projection_rules.ProjectionRule.{ProjectionRule}
use Rattle.cs_catalog.specs.declared.projection_rules.ProjectionRule.TheVariants.{Columns, Codes, Sort, Differences, Cuts, Sites, Joins}
use Rattle.cs_schema.specs.Document.{ProjectionText, Document}
use Rattle.cs_schema.specs.Rules.{number, has_columns, has_codes, has_sort, has_differences, has_cuts, has_sites, has_joins}

-- a projection of the document keeps the rule
abbrev pub keeps : ProjectionRule → Document → ProjectionText → Bool
keeps Columns d = has_columns d.columns
keeps Codes d = has_codes
keeps Sort d = has_sort
keeps Differences d = has_differences d.columns
keeps Cuts d = has_cuts d.columns
keeps Sites d = has_sites (number d.site_count)
keeps Joins d = has_joins d.projections
