use Rattle.std.proofs.Common.{◌≡◌, ℕ, ◌||◌, ◌&&◌}
use Rattle.std.specs.List.{slice_index}
use Rattle.cs_safety.specs.NumberSets.{is_in, some_below}
use Rattle.cs_safety.proofs.reach.next.Given as goal

abbrev pub invariant-loop-p : goal.invariant-loop-p
invariant-loop-p l = (q : ℕ) → is_in l.more q ≡ (is_in l.reached q || (is_in l.allowed q && some_below l.p (λ p. is_in l.reached p && is_in (slice_index l.graph.joins p) q)))
