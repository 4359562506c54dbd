use Rattle.std.proofs.Common.{◌≡◌, drop}
use Rattle.cs_schema.specs.Rules.{is_projection}
use Rattle.cs_catalog.proofs.lookups.is_projection.Given as goal

abbrev pub invariant-loop-projection : goal.invariant-loop-projection
invariant-loop-projection l = is_projection l.projections l.name ≡ is_projection (drop l.projection-index l.projections) l.name
