use Rattle.std.proofs.Common.{◌≡◌, ℕ, ◌<◌, ◌*◌, length}
use Rattle.sha2.specs.Sha256.{word_at}
use Rattle.cs_digests.specs.Keys.{AreScheduled}
use Rattle.cs_digests.specs.Lanes.{lane_at, of_four}
use Rattle.cs_digests.proofs.schedule.make_words.Given as goal

-- the words so far are those of the blocks
abbrev pub invariant-load : goal.invariant-load
invariant-load l = (length l.w ≡ 64) × ((k j : ℕ) → k < l.i → j < 4 → lane_at l.w k j ≡ word_at (of_four l.b0 l.b1 l.b2 l.b3 j) (4 * k))

abbrev pub invariant-schedule : goal.invariant-schedule
invariant-schedule l = (j : ℕ) → j < 4 → AreScheduled (of_four l.b0 l.b1 l.b2 l.b3 j) l.w j l.t
