use Rattle.std.proofs.Common.{◌≡◌, ◌<◌, ℕ, get_or}
use Rattle.cs_rows.proofs.SourceLemmas.{number}
use Rattle.cs_rows.proofs.column_sources.are_in.Given as goal

abbrev pub invariant-loop-at : goal.invariant-loop-at
invariant-loop-at l = (k : ℕ) → k < l.at → number (get_or l.reached k (0, (0, 0))) ≡ get_or l.projections k 0
