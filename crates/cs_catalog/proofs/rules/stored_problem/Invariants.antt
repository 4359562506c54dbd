use Rattle.std.proofs.Common.{◌≡◌, drop}
use Rattle.std.specs.List.{list_all}
use Rattle.cs_schema.specs.Rules.{is_stored}
use Rattle.cs_catalog.proofs.rules.stored_problem.Given as goal

abbrev pub invariant-loop-column : goal.invariant-loop-column
invariant-loop-column l = list_all (is_stored l.projections) l.columns ≡ list_all (is_stored l.projections) (drop l.column-index l.columns)
