use Rattle.std.proofs.Common.{◌≡◌, drop}
use Rattle.cs_schema.specs.Rules.{is_column}
use Rattle.cs_catalog.proofs.lookups.is_column.Given as goal

abbrev pub invariant-loop-column : goal.invariant-loop-column
invariant-loop-column l = is_column l.columns l.name ≡ is_column (drop l.column-index l.columns) l.name
