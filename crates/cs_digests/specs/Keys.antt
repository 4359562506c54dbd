-- The words of a block's rounds in a lane of vectors, and the same with the constants of the rounds added.
use Rattle.std.specs.Prelude.{◌≡◌, ◌<◌, ◌≤◌, ℕ, List, length, slice_index}
use Rattle.sha2.specs.Sha256.{add32, round_constants, schedule}
use Rattle.cs_digests.specs.Lanes.{lane_at}

-- lane j has the first n words of the block
pub record AreScheduled (b : List ℕ) (w : List (List ℕ)) (j n : ℕ) : Type 0 where
  pub long : length w ≡ 64
  pub each : (t : ℕ) → t < n → lane_at w t j ≡ slice_index (schedule b 48) t

-- lane j has the words of the block, with the constants added to the first n
pub record AreKeyed (b : List ℕ) (w : List (List ℕ)) (j n : ℕ) : Type 0 where
  pub long : length w ≡ 64
  pub each : (t : ℕ) → t < n → lane_at w t j ≡ add32 (slice_index round_constants t) (slice_index (schedule b 48) t)
  pub rest : (t : ℕ) → n ≤ t → t < 64 → lane_at w t j ≡ slice_index (schedule b 48) t
