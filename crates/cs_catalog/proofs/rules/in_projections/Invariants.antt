use Rattle.std.proofs.Common.{◌≡◌, drop}
use Rattle.std.specs.List.{list_all}
use Rattle.cs_catalog.specs.ProjectionRules.{keeps}
use Rattle.cs_catalog.proofs.rules.in_projections.Given as goal

abbrev pub invariant-loop-projection : goal.invariant-loop-projection
invariant-loop-projection l = list_all (keeps l.rule l.document) l.projections ≡ list_all (keeps l.rule l.document) (drop l.projection-index l.projections)
