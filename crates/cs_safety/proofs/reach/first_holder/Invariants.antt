use Rattle.std.proofs.Common.{◌≡◌, ℕ, ◌<◌, false}
use Rattle.cs_safety.specs.NumberSets.{is_in}
use Rattle.cs_safety.specs.Reach.{holds_among}
use Rattle.cs_safety.proofs.reach.first_holder.Given as goal

abbrev pub invariant-loop-q : goal.invariant-loop-q
invariant-loop-q l = (r : ℕ) → r < l.q → holds_among l.graph (is_in l.set) l.column r ≡ false
