use Rattle.std.proofs.Common.{◌≡◌, ℕ, ◌*◌, List}
use Rattle.sha2.specs.Sha256.{rounds, schedule}
use Rattle.cs_digests.specs.Keys.{AreKeyed}
use Rattle.cs_digests.proofs.single.compress_keyed.Given as goal

-- the working variables after the rounds so far
abbrev pub invariant-rounds : goal.invariant-rounds
invariant-rounds l = (b : List ℕ) → AreKeyed b l.w l.j 64 → l.v ≡ rounds l.hash (schedule b 48) (8 * l.turn)
