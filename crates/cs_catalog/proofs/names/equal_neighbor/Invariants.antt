use Rattle.std.proofs.Common.{◌≡◌, drop, ◌∷◌}
use Rattle.cs_catalog.specs.Tree.{texts}
use Rattle.cs_catalog.specs.Repeats.{neighbors_differ}
use Rattle.cs_catalog.proofs.names.equal_neighbor.Given as goal

abbrev pub invariant-loop-name : goal.invariant-loop-name
invariant-loop-name l = neighbors_differ (texts l.fn.names) ≡ neighbors_differ (texts (l.last ∷ drop l.name-index l.rest))
