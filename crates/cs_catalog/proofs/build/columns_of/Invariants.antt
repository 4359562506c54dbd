use Rattle.std.proofs.Common.{◌≡◌, take, map}
use Rattle.cs_schema.specs.Named.{column_data}
use Rattle.cs_catalog.proofs.build.columns_of.Given as goal

abbrev pub invariant-loop-entry : goal.invariant-loop-entry
invariant-loop-entry l = l.columns.items ≡ map column_data (take l.entry-index l.entries)
