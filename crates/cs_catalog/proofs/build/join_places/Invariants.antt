use Rattle.std.proofs.Common.{◌≡◌, drop, ◌++◌}
use Rattle.cs_catalog.specs.Tree.{texts}
use Rattle.cs_schema.specs.Rules.{is_among}
use Rattle.cs_schema.specs.Named.{places}
use Rattle.cs_catalog.proofs.build.join_places.Given as goal

abbrev pub invariant-loop-place : goal.invariant-loop-place
invariant-loop-place l = l.places.items ++ places (λ q. is_among q.name (texts l.joins)) l.place (drop l.place l.projections) ≡ places (λ q. is_among q.name (texts l.joins)) 0 l.projections
