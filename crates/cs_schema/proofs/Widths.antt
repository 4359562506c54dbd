-- How many columns a projection has.
use Rattle.std.proofs.Common.{◌≡◌, ℕ, ◌<◌, ◌≤◌, ◌==◌, List, [], ◌∷◌, length, sym, ◌∙◌, refl, arith, eqb}
use Rattle.std.proofs.lemmas.Bool.Decides.{nat_tests}
use Rattle.std.specs.List.{list_any}
use Rattle.std.proofs.lemmas.Map.Steps.{length-le_from_distinct_below}
use Rattle.cs_schema.specs.Lists.{member}
use Rattle.cs_schema.specs.CatalogData.{CatalogData, projection}
use Rattle.cs_schema.specs.CatalogRules.{IsCatalog}

-- a test of equality holds in either direction
eqb_comm : (x y : ℕ) → (x == y) ≡ (y == x)
eqb_comm x y = grind (arith, nat_tests)

member_is : (xs : List ℕ) (q : ℕ) → list_any (eqb q) xs ≡ member xs q
member_is [] q = refl
member_is (x ∷ xs) q = rw (eqb_comm q x, member_is xs q) refl

pub at_most_32 : (C : CatalogData) (p : ℕ) → IsCatalog C → p < length C.projections → length (projection C p).columns ≤ 32
at_most_32 C p rules h =
    let here = rules.projections p h in
    let few = length-le_from_distinct_below (projection C p).columns (length C.columns) here.distinct_columns (λ q m. here.columns q (sym (member_is (projection C p).columns q) ∙ m)) in
    omega (arith, few, rules.column_range.1)
