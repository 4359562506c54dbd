-- Sites of a loss that need not be lost.
use Rattle.std.specs.Prelude.{List, ℕ, IsTrue}
use Rattle.cs_schema.specs.Lists.{member, IsIn}
use Rattle.cs_schema.specs.Losses.{Sites}
use Rattle.cs_safety.specs.Within.{IsWithin}
use Rattle.cs_diagnosis.specs.declared.findings.Explanation.{Explanation}

-- the explanation is within the loss, and does without this site of it
abbrev pub Spares : Explanation → Sites → ℕ → Type 0
Spares e L x = IsTrue (member L x) × IsWithin e.loss L × (¬ IsTrue (member e.loss x))

-- some explanation is within the loss, and does without this site of it
abbrev pub IsSpare : List Explanation → Sites → ℕ → Type 0
IsSpare found L x = (e : Explanation) × IsIn e found × Spares e L x
