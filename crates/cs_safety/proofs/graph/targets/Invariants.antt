use Rattle.std.proofs.Common.{◌≡◌, ℕ, take}
use Rattle.cs_schema.specs.Lists.{member}
use Rattle.cs_safety.specs.NumberSets.{is_in}
use Rattle.cs_safety.proofs.graph.targets.Given as goal

abbrev pub invariant-loop-q : goal.invariant-loop-q
invariant-loop-q l = (q : ℕ) → is_in l.found q ≡ member (take l.q-index l.joins) q
