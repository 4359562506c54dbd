use Rattle.std.proofs.Common.{ℕ, ◌<◌, ℤ, get_or, FitsSigned}
use Rattle.std.specs.Int.{w64}
use Rattle.cs_rebuild.proofs.columns_of_rows.assert_int_bounds.Given as goal

abbrev pub invariant-loop-int : goal.invariant-loop-int
invariant-loop-int l = (k : ℕ) (d : ℤ) → k < l.int-index → FitsSigned w64 (get_or l.ints k d)
