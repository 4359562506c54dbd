use Rattle.std.proofs.Common.{◌≡◌, ℕ, ◌<◌, true}
use Rattle.cs_safety.specs.Paths.{holds_column}
use Rattle.cs_rows.proofs.catalog_of.has_all_columns.Given as goal

-- the projection has the columns so far
abbrev pub invariant-loop-c : goal.invariant-loop-c
invariant-loop-c l = (k : ℕ) → k < l.c → holds_column l.survivors.catalog l.p k ≡ true
