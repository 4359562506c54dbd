use Rattle.std.proofs.Common.{ℕ, ◌+◌, ◌-◌, ◌<◌, ◌≤◌, ◌++◌, ◌∷◌}
use Rattle.cs_schema.specs.Losses.{Sites}
use Rattle.cs_safety.specs.Safety.{IsSafe}
use Rattle.cs_safety.specs.LossSearch.{IsTail}
use Rattle.cs_design.specs.Fatal.{either}
use Rattle.cs_design.proofs.greatest.+has_unsafe.Given as goal

abbrev pub decreases-has_unsafe : goal.decreases-has_unsafe
decreases-has_unsafe l = l.count

abbrev pub invariant-loop-site : goal.invariant-loop-site
invariant-loop-site l = (x : ℕ) (T : Sites) → l.fn.from ≤ x → x < l.site → IsTail l.catalog (x + 1) (l.count - 1) T → IsSafe l.catalog (either l.lost (l.chosen ++ x ∷ T))
