use Rattle.std.proofs.Common.{◌≡◌, ℕ, ◌<◌, ◌*◌, List}
use Rattle.sha2.specs.Sha256.{rounds, schedule}
use Rattle.cs_digests.specs.Keys.{AreKeyed}
use Rattle.cs_digests.specs.Lanes.{lane}
use Rattle.cs_digests.proofs.rounds.compress.Given as goal

-- the working variables after the rounds so far
abbrev pub invariant-rounds : goal.invariant-rounds
invariant-rounds l = (j : ℕ) (b : List ℕ) → j < 4 → AreKeyed b l.w j 64 → lane j l.v ≡ rounds (lane j l.state) (schedule b 48) (8 * l.turn)
