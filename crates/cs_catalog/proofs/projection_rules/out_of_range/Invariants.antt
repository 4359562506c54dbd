use Rattle.std.proofs.Common.{◌≡◌, drop}
use Rattle.std.specs.List.{list_all}
use Rattle.cs_schema.specs.Document.{is_from_to}
use Rattle.cs_schema.specs.Rules.{number}
use Rattle.cs_catalog.proofs.projection_rules.out_of_range.Given as goal

abbrev pub invariant-loop-at : goal.invariant-loop-at
invariant-loop-at l = list_all (is_from_to 1 (number l.most)) l.numbers ≡ list_all (is_from_to 1 (number l.most)) (drop l.at l.numbers)
