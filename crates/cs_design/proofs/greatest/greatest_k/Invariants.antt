use Rattle.std.proofs.Common.{ℕ, ◌<◌}
use Rattle.cs_schema.specs.Losses.{Sites}
use Rattle.cs_safety.specs.Safety.{IsSafe}
use Rattle.cs_safety.specs.LossSearch.{IsTail}
use Rattle.cs_design.specs.Fatal.{either}
use Rattle.cs_design.proofs.greatest.greatest_k.Given as goal

abbrev pub invariant-loop-count : goal.invariant-loop-count
invariant-loop-count l = (n : ℕ) (T : Sites) → n < l.count → IsTail l.catalog 1 n T → IsSafe l.catalog (either l.lost T)
