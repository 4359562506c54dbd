use Rattle.std.proofs.Common.{ℕ, ◌+◌, ◌-◌, ◌<◌, ◌≤◌, ◌++◌, ◌∷◌, List}
use Rattle.cs_safety.specs.Safety.{IsSafe}
use Rattle.cs_safety.specs.LossSearch.{IsTail}
use Rattle.cs_safety.proofs.ksafety.+first_unsafe.Given as goal

abbrev pub decreases-first_unsafe : goal.decreases-first_unsafe
decreases-first_unsafe l = l.count

abbrev pub invariant-loop-site : goal.invariant-loop-site
invariant-loop-site l = (x : ℕ) (T : List ℕ) → l.fn.from ≤ x → x < l.site → IsTail l.catalog (x + 1) (l.count - 1) T → IsSafe l.catalog (l.chosen ++ x ∷ T)
