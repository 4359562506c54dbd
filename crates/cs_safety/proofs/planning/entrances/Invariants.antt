use Rattle.std.proofs.Common.{◌≡◌, ℕ, ◌<◌, length, None, slice_index_or}
use Rattle.cs_safety.specs.PlanTests.{IsEntrance}
use Rattle.cs_safety.proofs.planning.entrances.Given as goal

abbrev pub invariant-loop-q : goal.invariant-loop-q
invariant-loop-q l = record {
  size : length l.prev.items ≡ l.q;
  each : (q : ℕ) → q < l.q → IsEntrance l.graph l.levels.allowed l.levels.start q (slice_index_or l.prev.items q None);
}
