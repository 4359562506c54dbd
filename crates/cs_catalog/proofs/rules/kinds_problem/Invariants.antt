use Rattle.std.proofs.Common.{◌≡◌, drop}
use Rattle.std.specs.List.{list_all}
use Rattle.cs_schema.specs.Rules.{is_kind}
use Rattle.cs_catalog.proofs.rules.kinds_problem.Given as goal

abbrev pub invariant-loop-column : goal.invariant-loop-column
invariant-loop-column l = list_all (λ x. is_kind x.kind) l.columns ≡ list_all (λ x. is_kind x.kind) (drop l.column-index l.columns)
