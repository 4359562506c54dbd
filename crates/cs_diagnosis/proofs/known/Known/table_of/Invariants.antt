use Rattle.std.proofs.Common.{◌≡◌, ℕ, ◌<◌, Some}
use Rattle.std.specs.List.{slice_get}
use Rattle.cs_diagnosis.specs.Conflicts.{AreAllHit}
use Rattle.cs_diagnosis.specs.declared.conflicts.Conflicts.{Conflicts}
use Rattle.cs_diagnosis.proofs.known.Known.table_of.Given as goal

-- the loss misses a conflict of each table so far
abbrev pub invariant-loop-place : goal.invariant-loop-place
invariant-loop-place l = (n : ℕ) (c : Conflicts) → n < l.place → slice_get l.conflicts-items n ≡ Some c → ¬ AreAllHit c l.loss
