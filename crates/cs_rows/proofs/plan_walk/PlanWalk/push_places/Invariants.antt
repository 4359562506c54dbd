use Rattle.std.proofs.Common.{◌≡◌, ◌<◌, ◌≤◌, ◌++◌, ◌∷◌, [], ℕ, length, get_or, true, false}
use Rattle.cs_rows.proofs.plan_walk.PlanWalk.push_places.Given as goal

abbrev pub invariant-loop-q : goal.invariant-loop-q
invariant-loop-q l = record {
  count : length l.ids.items ≡ length l.fn.ids.items;
  pushed : (k : ℕ) → k < l.q → get_or l.self.elsewhere.items k false ≡ true → get_or l.ids.items k [] ≡ get_or l.fn.ids.items k [] ++ get_or l.places k (0, 0) ∷ [];
  rest : (k : ℕ) → l.q ≤ k → get_or l.ids.items k [] ≡ get_or l.fn.ids.items k [];
}
