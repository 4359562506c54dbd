-- Laws over the definitions of safety.
use Rattle.std.specs.Prelude.{◌≡◌, ℕ, ◌<◌, length}
use Rattle.cs_schema.specs.CatalogData.{CatalogData}
use Rattle.cs_schema.specs.CatalogRules.{IsCatalog}
use Rattle.cs_schema.specs.Losses.{Sites}
use Rattle.cs_schema.specs.Rows.{Row, IsRow}
use Rattle.cs_safety.specs.Safety.{IsWhole, IsSafeByRows, IsFirstUnsafe, with_row}
use Rattle.cs_safety.specs.PlanData.{PlanData, IsPlan}
use Rattle.cs_safety.specs.SafetyCuts.{at_cuts}

-- where some alive projection reaches every column, each row is safe
abbrev pub WholeIsSafeByRows : Type 0
WholeIsSafeByRows = (C : CatalogData) → IsCatalog C → (L : Sites) → IsWhole C L → IsSafeByRows C L

-- a catalog has at most one first unsafe loss
abbrev pub FirstUnsafeIsOne : Type 0
FirstUnsafeIsOne = (C : CatalogData) (k : ℕ) (L M : Sites) → IsFirstUnsafe C k L → IsFirstUnsafe C k M → L ≡ M

-- a loss has at most one plan
abbrev pub PlanIsOne : Type 0
PlanIsOne = (C : CatalogData) (L : Sites) (P Q : PlanData) → IsPlan C L P → IsPlan C L Q → P ≡ Q

-- a row is kept by the projections that keep the row at its cuts
abbrev pub CutsDecide : Type 0
CutsDecide = (C : CatalogData) → IsCatalog C → (L : Sites) (r : Row) → IsRow C r → IsRow C (at_cuts C r) × ((p : ℕ) → p < length C.projections → with_row C L (at_cuts C r) p ≡ with_row C L r p)
