-- Repeats in a sorted list.
use Rattle.std.specs.Prelude.{ℕ, Bool, true, ◌&&◌, not, List, [], ◌∷◌}
use Rattle.cs_schema.specs.Rules.{same_text}

-- each text differs from the next one
abbrev pub neighbors_differ : List (List ℕ) → Bool
neighbors_differ [] = true
neighbors_differ (x ∷ []) = true
neighbors_differ (x ∷ y ∷ ys) = not (same_text x y) && neighbors_differ (y ∷ ys)
