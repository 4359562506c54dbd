use Rattle.std.proofs.Common.{ℕ, ◌<◌, List}
use Rattle.cs_safety.specs.Safety.{IsSafe}
use Rattle.cs_safety.specs.LossSearch.{IsTail}
use Rattle.cs_safety.proofs.ksafety.ksafe.Given as goal

abbrev pub invariant-loop-count : goal.invariant-loop-count
invariant-loop-count l = (n : ℕ) (T : List ℕ) → n < l.count → IsTail l.catalog 1 n T → IsSafe l.catalog T
