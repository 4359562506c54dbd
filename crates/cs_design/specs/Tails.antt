-- Losses by the sites that they add to some chosen ones: words of the private functions.
use Rattle.std.specs.Prelude.{ℕ, ◌++◌}
use Rattle.cs_schema.specs.CatalogData.{CatalogData}
use Rattle.cs_schema.specs.Losses.{Sites}
use Rattle.cs_safety.specs.Safety.{IsSafe}
use Rattle.cs_safety.specs.LossSearch.{IsTail}
use Rattle.cs_design.specs.Fatal.{either}

-- the chosen sites are unsafe with some tail, and what is lost already
abbrev pub HasUnsafeTail : CatalogData → Sites → Sites → ℕ → ℕ → Type 0
HasUnsafeTail C lost chosen from count = (T : Sites) × IsTail C from count T × (¬ IsSafe C (either lost (chosen ++ T)))

-- the chosen sites are safe with each tail, and what is lost already
abbrev pub AreTailsSafe : CatalogData → Sites → Sites → ℕ → ℕ → Type 0
AreTailsSafe C lost chosen from count = (T : Sites) → IsTail C from count T → IsSafe C (either lost (chosen ++ T))
