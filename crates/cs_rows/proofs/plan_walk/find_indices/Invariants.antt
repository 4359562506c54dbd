use Rattle.std.proofs.Common.{◌≡◌, ◌<◌, ℕ, length, get_or}
use Rattle.cs_rows.specs.Columns.{index_of}
use Rattle.cs_rows.proofs.plan_walk.find_indices.Given as goal

abbrev pub invariant-loop-c : goal.invariant-loop-c
invariant-loop-c l = (length l.indices.items ≡ l.c) × ((k : ℕ) → k < l.c → get_or l.indices.items k 0 ≡ index_of l.catalog l.plan k)
