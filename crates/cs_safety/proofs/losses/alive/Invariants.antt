use Rattle.std.proofs.Common.{◌≡◌, ℕ, ◌<◌, false}
use Rattle.cs_schema.specs.Losses.{lost}
use Rattle.cs_safety.proofs.losses.alive.Given as goal

abbrev pub invariant-loop-s : goal.invariant-loop-s
invariant-loop-s l = (t : ℕ) → t < l.s → lost l.catalog l.loss l.p t ≡ false
