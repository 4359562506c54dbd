-- Why a catalog is not safe for losses of at most k sites.
use Rattle.std.specs.Prelude.{ℕ, ◌<◌, ◌≤◌}
use Rattle.cs_schema.specs.CatalogData.{CatalogData}
use Rattle.cs_safety.specs.Safety.{IsFirstUnsafe}
use Rattle.cs_safety.specs.declared.ksafety.SafetyFault.{SafetyFault}

-- more than 3 sites were asked for, or the loss is the first that is not safe
abbrev pub IsSafetyFault : CatalogData → ℕ → SafetyFault → Type 0
IsSafetyFault C k SafetyFault.BadK = 3 < k
IsSafetyFault C k (SafetyFault.Unsafe L) = (k ≤ 3) × IsFirstUnsafe C k L
