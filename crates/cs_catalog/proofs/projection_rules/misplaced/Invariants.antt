use Rattle.std.proofs.Common.{◌≡◌, drop}
use Rattle.cs_catalog.specs.Tree.{texts}
use Rattle.cs_schema.specs.Rules.{all_may}
use Rattle.cs_catalog.proofs.projection_rules.misplaced.Given as goal

abbrev pub invariant-loop-i : goal.invariant-loop-i
invariant-loop-i l = all_may l.columns l.first (texts l.names) l.codes ≡ all_may l.columns l.first (texts (drop l.i l.names)) (drop l.i l.codes)
