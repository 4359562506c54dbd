use Rattle.std.proofs.Common.{◌≡◌, [], ℕ, length, get_or}
use Rattle.cs_rows.proofs.plan_walk.PlanWalk.no_ids.Given as goal

abbrev pub invariant-loop-q : goal.invariant-loop-q
invariant-loop-q l = record {
  count : length l.ids.items ≡ l.q;
  none : (k : ℕ) → get_or l.ids.items k [] ≡ [];
}
