use Rattle.std.proofs.Common.{◌≡◌, drop}
use Rattle.std.specs.List.{list_all}
use Rattle.cs_catalog.specs.Tree.{texts}
use Rattle.cs_schema.specs.Rules.{is_among}
use Rattle.cs_catalog.proofs.projection_rules.not_among.Given as goal

abbrev pub invariant-loop-at : goal.invariant-loop-at
invariant-loop-at l = list_all (λ name. is_among name (texts l.all)) (texts l.names) ≡ list_all (λ name. is_among name (texts l.all)) (texts (drop l.at l.names))
