use Rattle.std.proofs.Common.{◌≡◌, drop}
use Rattle.cs_schema.specs.Rules.{is_stored}
use Rattle.cs_catalog.proofs.rules.is_stored.Given as goal

abbrev pub invariant-loop-projection : goal.invariant-loop-projection
invariant-loop-projection l = is_stored l.projections l.fn.column ≡ is_stored (drop l.projection-index l.projections) l.fn.column
