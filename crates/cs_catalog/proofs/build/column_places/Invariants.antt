use Rattle.std.proofs.Common.{◌≡◌, drop, map, ◌++◌}
use Rattle.cs_catalog.specs.Tree.{texts}
use Rattle.cs_schema.specs.Named.{column_place}
use Rattle.cs_catalog.proofs.build.column_places.Given as goal

abbrev pub invariant-loop-name : goal.invariant-loop-name
invariant-loop-name l = l.places.items ++ map (column_place l.columns) (texts (drop l.name-index l.names)) ≡ map (column_place l.columns) (texts l.names)
