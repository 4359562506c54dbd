use Rattle.std.proofs.Common.{ℕ, ◌<◌, length}
use Rattle.cs_rebuild.specs.Comparing.{IsCellThere}
use Rattle.cs_rebuild.proofs.comparing.has_rows.Given as goal

-- the columns so far are equal
abbrev pub invariant-loop-j : goal.invariant-loop-j
invariant-loop-j g l = (i k : ℕ) → i < l.j → k < length l.numbers → IsCellThere l.image l.walked l.columns l.numbers i k
