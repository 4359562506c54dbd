use Rattle.std.proofs.Common.{◌≡◌, ℕ, ◌<◌, ◌+◌, Some}
use Rattle.std.specs.List.{slice_get}
use Rattle.cs_schema.specs.Losses.{Sites}
use Rattle.cs_diagnosis.specs.Pairs.{IsHit}
use Rattle.cs_diagnosis.proofs.conflicts.Conflicts.are_hit.Given as goal

-- the conflicts of the sites so far are hit
abbrev pub invariant-loop-site : goal.invariant-loop-site
invariant-loop-site l = (n : ℕ) (others : Sites) → n + 1 < l.site → slice_get l.self.with n ≡ Some others → IsHit l.loss (n + 1, others)
