-- The cells of a column at some indices.
use Rattle.std.proofs.Common.{◌≡◌, ℕ, zero, suc, ◌<◌, List, [], ◌∷◌, ◌++◌, length, map, take, drop, get_or, refl, arith}
use Rattle.std.specs.Prelude.{flat_map, slice_index}

one_there : {X : Type 0} (xs : List X) (place : ℕ) (d : X) → place < length xs → take 1 (drop place xs) ≡ get_or xs place d ∷ []
one_there [] place d h = absurd (omega (arith, h))
one_there (x ∷ xs) zero d h = refl
one_there (x ∷ xs) (suc place) d h = one_there xs place d (omega (arith, h))

pub each_there : {X : Type 0} (xs : List X) (places : List ℕ) (d : X) → ((k : ℕ) → k < length places → slice_index places k < length xs) → flat_map (λ place. take 1 (drop place xs)) places ≡ map (λ place. get_or xs place d) places
each_there xs [] d h = refl
each_there xs (place ∷ places) d h = λ j. one_there xs place d (h 0 (omega arith)) j ++ each_there xs places d (λ k l. h (suc k) (omega arith)) j
