use Rattle.std.proofs.Common.{◌≡◌, ℕ, ◌+◌, ◌<◌, true}
use Rattle.cs_safety.specs.Reach.{within}
use Rattle.cs_safety.proofs.planning.entrance.Given as goal

abbrev pub invariant-loop-k : goal.invariant-loop-k
invariant-loop-k l = (k : ℕ) → k < l.k → within l.graph l.levels.allowed l.levels.start (k + 1) l.q ≡ true → within l.graph l.levels.allowed l.levels.start k l.q ≡ true
