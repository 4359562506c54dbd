-- What is kept and moved back.
use Rattle.std.specs.Prelude.{◌≡◌, ◌⊎◌, ℕ, List, ◌∷◌}
use Rattle.cs_file_system.specs.Calls.{Calls, MayBeReplaced, miss, rename}

-- what stood at a path was moved in the place of what stood at another and is kept
pub record IsMovedOver (from to kept folder : List ℕ) (calls : Calls) : Type 0 where
  pub before : Calls
  pub last : calls ≡ rename from to ∷ before
  pub safe : MayBeReplaced to kept folder before

-- so it was, or nothing was found there to be moved
abbrev pub IsMovedBack : (from to kept folder : List ℕ) → Calls → Type 0
IsMovedBack from to kept folder calls = IsMovedOver from to kept folder calls ⊎ ((before : Calls) × (calls ≡ miss from ∷ before))
