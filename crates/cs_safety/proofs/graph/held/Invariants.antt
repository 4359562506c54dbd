use Rattle.std.proofs.Common.{◌≡◌, ℕ, take}
use Rattle.cs_schema.specs.Lists.{member}
use Rattle.cs_safety.specs.NumberSets.{is_in}
use Rattle.cs_safety.proofs.graph.held.Given as goal

abbrev pub invariant-loop-c : goal.invariant-loop-c
invariant-loop-c l = (c : ℕ) → is_in l.found c ≡ member (take l.c-index l.columns) c
