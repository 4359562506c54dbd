use Rattle.std.proofs.Common.{◌≡◌, take, map}
use Rattle.cs_schema.specs.Named.{projection_data}
use Rattle.cs_catalog.proofs.build.projections_of.Given as goal

abbrev pub invariant-loop-entry : goal.invariant-loop-entry
invariant-loop-entry l = l.projections.items ≡ map (projection_data l.document) (take l.entry-index l.entries)
