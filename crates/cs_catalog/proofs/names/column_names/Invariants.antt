use Rattle.std.proofs.Common.{◌≡◌, take, map}
use Rattle.cs_catalog.specs.Tree.{texts}
use Rattle.cs_catalog.proofs.names.column_names.Given as goal

abbrev pub invariant-loop-column : goal.invariant-loop-column
invariant-loop-column l = texts l.names.items ≡ map (λ x. x.name) (take l.column-index l.columns)
