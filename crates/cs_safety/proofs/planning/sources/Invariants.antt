use Rattle.std.proofs.Common.{◌≡◌, ℕ, ◌<◌, length, slice_index}
use Rattle.cs_safety.specs.PlanTests.{IsNearestHolder}
use Rattle.cs_safety.proofs.planning.sources.Given as goal

abbrev pub invariant-loop-column : goal.invariant-loop-column
invariant-loop-column l = record {
  size : length l.found.items ≡ l.column;
  each : (c : ℕ) → c < l.column → IsNearestHolder l.graph l.levels.allowed l.levels.start c (slice_index l.found.items c);
}
