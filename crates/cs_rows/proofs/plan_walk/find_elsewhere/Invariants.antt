use Rattle.std.proofs.Common.{◌≡◌, ◌<◌, ℕ, length, get_or, true, false}
use Rattle.std.specs.Prelude.{slice_index}
use Rattle.cs_rows.proofs.plan_walk.find_elsewhere.Given as goal

abbrev pub invariant-loop-c : goal.invariant-loop-c
invariant-loop-c l = record {
  count : length l.elsewhere.items ≡ length l.catalog.projections;
  only : (q : ℕ) → q < length l.catalog.projections → get_or l.elsewhere.items q false ≡ true → (k : ℕ) × (k < l.c) × (slice_index l.plan.source k ≡ q);
  all : (k : ℕ) → k < l.c → get_or l.elsewhere.items (slice_index l.plan.source k) false ≡ true;
}
