use Rattle.std.proofs.Common.{◌≡◌, take, map}
use Rattle.cs_catalog.specs.Tree.{texts}
use Rattle.cs_catalog.proofs.names.projection_names.Given as goal

abbrev pub invariant-loop-projection : goal.invariant-loop-projection
invariant-loop-projection l = texts l.names.items ≡ map (λ x. x.name) (take l.projection-index l.projections)
