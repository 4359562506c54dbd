use Rattle.std.proofs.Common.{◌≡◌, ℕ, ◌<◌, false}
use Rattle.cs_safety.specs.Reach.{within, holds_among}
use Rattle.cs_safety.proofs.planning.nearest.Given as goal

abbrev pub invariant-loop-k : goal.invariant-loop-k
invariant-loop-k l = (k : ℕ) → k < l.k → (r : ℕ) → r < l.graph.count → holds_among l.graph (within l.graph l.levels.allowed l.levels.start k) l.column r ≡ false
