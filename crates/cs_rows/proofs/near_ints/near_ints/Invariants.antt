use Rattle.std.proofs.Common.{ℕ, pos, ◌<◌, get_or}
use Rattle.std.specs.Prelude.{◌≤ℤ◌}
use Rattle.cs_rows.proofs.near_ints.near_ints.Given as goal

abbrev pub invariant-loop-int : goal.invariant-loop-int
invariant-loop-int l = (k : ℕ) → k < l.int-index → (l.least ≤ℤ get_or l.ints k (pos 0)) × (get_or l.ints k (pos 0) ≤ℤ l.most)
