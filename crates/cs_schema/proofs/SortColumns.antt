-- The sort columns of a projection.
use Rattle.std.proofs.Common.{◌≡◌, ℕ, ◌<◌, List, length, sym, subst}
use Rattle.std.specs.Prelude.{slice_index}
use Rattle.cs_schema.specs.CatalogData.{CatalogData, projection}
use Rattle.cs_schema.specs.CatalogRules.{IsCatalog}
use Rattle.cs_schema.proofs.Lists.{member_at}

-- the first is a column of the table
pub first_exists : (C : CatalogData) → IsCatalog C → (p : ℕ) → p < length C.projections → (sort : List ℕ) → sort ≡ (projection C p).sort → slice_index sort 0 < length C.columns
first_exists C rules p h sort e =
    let here = rules.projections p h in
    subst (λ (l : List ℕ). slice_index l 0 < length C.columns) (sym e) (here.columns _ (here.sort _ (member_at (projection C p).sort 0 0 here.some_sort)))
