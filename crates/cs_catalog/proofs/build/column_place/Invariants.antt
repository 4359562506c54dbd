use Rattle.std.proofs.Common.{◌≡◌, drop, ◌+◌}
use Rattle.cs_schema.specs.Named.{column_place}
use Rattle.cs_catalog.proofs.build.column_place.Given as goal

abbrev pub invariant-loop-place : goal.invariant-loop-place
invariant-loop-place l = column_place l.columns l.name ≡ l.place + column_place (drop l.place l.columns) l.name
