-- Setting a list to a value at some positions.
use Rattle.std.proofs.Common.{◌≡◌, ℕ, ◌<◌, ◌≤◌, Bool, false, cond, List, length, get_or, ◌⊎◌}

-- the positions `start..stop` now have the value, the others are unchanged
pub record PaintsRun {C : Type 0} (v : C) (start stop : ℕ) (old new : List C) : Type 0 where
  pub size : length new ≡ length old
  pub inside : (k : ℕ) (d : C) → start ≤ k → k < stop → k < length old → get_or new k d ≡ v
  pub outside : (k : ℕ) (d : C) → (k < start ⊎ stop ≤ k) → get_or new k d ≡ get_or old k d

-- the positions whose bit is set now have the value, the others are unchanged
pub record Painted {C : Type 0} (v : C) (bits : List Bool) (old new : List C) : Type 0 where
  pub size : length new ≡ length old
  pub at : (k : ℕ) (d : C) → k < length old → get_or new k d ≡ cond (get_or bits k false) v (get_or old k d)
