-- The sort columns of a projection are columns of the table.
use Rattle.std.proofs.Common.{◌≡◌, ℕ, ◌<◌, List, length, sym, subst}
use Rattle.std.specs.Prelude.{slice_index, EachIndex}
use Rattle.cs_schema.specs.CatalogData.{CatalogData, projection}
use Rattle.cs_schema.specs.CatalogRules.{IsCatalog}
use Rattle.cs_schema.proofs.Lists.{member_at}

pub sort_inside : (C : CatalogData) → IsCatalog C → (p : ℕ) → p < length C.projections → EachIndex (projection C p).sort (λ k. slice_index (projection C p).sort k < length C.columns)
sort_inside C cat p h k there = (cat.projections p h).columns _ ((cat.projections p h).sort _ (member_at (projection C p).sort k 0 there))

pub sort_inside_of : (C : CatalogData) → IsCatalog C → (p : ℕ) → p < length C.projections → (sort : List ℕ) → sort ≡ (projection C p).sort → EachIndex sort (λ k. slice_index sort k < length C.columns)
sort_inside_of C cat p h sort e = subst (λ (l : List ℕ). EachIndex l (λ k. slice_index l k < length C.columns)) (sym e) (sort_inside C cat p h)
