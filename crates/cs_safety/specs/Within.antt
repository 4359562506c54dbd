-- Losses within others, and their safety.
use Rattle.std.specs.Prelude.{ℕ, IsTrue}
use Rattle.cs_schema.specs.declared.kinds.Safety.{Safety}
use Rattle.cs_schema.specs.Lists.{member}
use Rattle.cs_schema.specs.CatalogData.{CatalogData}
use Rattle.cs_schema.specs.Losses.{Sites}
use Rattle.cs_safety.specs.Safety.{IsSafeBy}

-- each site of the first loss is one of the second
abbrev pub IsWithin : Sites → Sites → Type 0
IsWithin L M = (x : ℕ) → IsTrue (member L x) → IsTrue (member M x)

-- by either rule, a loss within a safe one is safe
abbrev pub SafetyIsMonotone : Type 0
SafetyIsMonotone = (rule : Safety) (C : CatalogData) (L M : Sites) → IsWithin L M → IsSafeBy rule C M → IsSafeBy rule C L
