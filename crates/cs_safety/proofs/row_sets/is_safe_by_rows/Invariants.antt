use Rattle.std.proofs.Common.{◌≡◌, ℕ, ◌<◌, true}
use Rattle.cs_safety.specs.Reach.{Suits}
use Rattle.cs_safety.specs.RowSets.{among}
use Rattle.cs_safety.proofs.row_sets.is_safe_by_rows.Given as goal

abbrev pub invariant-loop-s : goal.invariant-loop-s
invariant-loop-s l = (s : ℕ) → s < l.s → among l.sets s ≡ true → (a : ℕ) × Suits l.graph s a
