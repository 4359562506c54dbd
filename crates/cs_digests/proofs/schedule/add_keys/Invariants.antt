use Rattle.std.proofs.Common.{◌≡◌, ℕ, ◌<◌, List, length}
use Rattle.cs_digests.specs.Keys.{AreKeyed, AreScheduled}
use Rattle.cs_digests.proofs.schedule.add_keys.Given as goal

-- the constants so far are added
abbrev pub invariant-keys : goal.invariant-keys
invariant-keys l = (length l.w ≡ 64) × ((b : List ℕ) (j : ℕ) → j < 4 → AreScheduled b l.fn.w j 64 → AreKeyed b l.w j l.t)
