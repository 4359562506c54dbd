use Rattle.std.proofs.Common.{◌≡◌, take, true}
use Rattle.cs_catalog.specs.Tree.{texts}
use Rattle.cs_schema.specs.Rules.{are_distinct}
use Rattle.cs_catalog.proofs.projection_rules.repeated.Given as goal

abbrev pub invariant-loop-at : goal.invariant-loop-at
invariant-loop-at l = are_distinct (texts (take l.at l.names)) ≡ true
