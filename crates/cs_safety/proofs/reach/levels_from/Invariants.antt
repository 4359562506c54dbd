use Rattle.std.proofs.Common.{◌≡◌, ℕ, ◌<◌, length}
use Rattle.std.specs.List.{slice_index}
use Rattle.cs_safety.specs.NumberSets.{is_in}
use Rattle.cs_safety.specs.Reach.{within}
use Rattle.cs_safety.proofs.reach.levels_from.Given as goal

abbrev pub invariant-loop-k : goal.invariant-loop-k
invariant-loop-k l = record {
  size : length l.reached ≡ 8;
  reached : (k : ℕ) → k < l.k → (q : ℕ) → is_in (slice_index l.reached k) q ≡ within l.graph l.allowed l.start k q;
}
