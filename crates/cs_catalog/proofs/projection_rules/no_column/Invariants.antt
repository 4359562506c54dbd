use Rattle.std.proofs.Common.{◌≡◌, drop}
use Rattle.std.specs.List.{list_all}
use Rattle.cs_catalog.specs.Tree.{texts}
use Rattle.cs_schema.specs.Rules.{is_column}
use Rattle.cs_catalog.proofs.projection_rules.no_column.Given as goal

abbrev pub invariant-loop-at : goal.invariant-loop-at
invariant-loop-at l = list_all (is_column l.columns) (texts l.names) ≡ list_all (is_column l.columns) (texts (drop l.at l.names))
