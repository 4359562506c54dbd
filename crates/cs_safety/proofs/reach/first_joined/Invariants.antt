use Rattle.std.proofs.Common.{◌≡◌, ℕ, ◌<◌, false}
use Rattle.cs_safety.specs.NumberSets.{is_in}
use Rattle.cs_safety.specs.Reach.{joins_among}
use Rattle.cs_safety.proofs.reach.first_joined.Given as goal

abbrev pub invariant-loop-q : goal.invariant-loop-q
invariant-loop-q l = (r : ℕ) → r < l.q → joins_among l.graph (is_in l.set) l.target r ≡ false
