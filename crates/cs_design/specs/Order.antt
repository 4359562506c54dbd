-- The losses of so many sites, in order: words of the private functions.
use Rattle.std.specs.Prelude.{ℕ, zero, suc, ◌+◌, ◌-◌, ◌≤◌, ◌++◌, ◌↔◌, List, [], ◌∷◌, map, length}
use Rattle.std.specs.List.{flat_map, range_with_len}
use Rattle.std.specs.List.Sorted.{IsStrictlySortedBy}
use Rattle.cs_schema.specs.Lists.{IsIn}
use Rattle.cs_schema.specs.CatalogData.{CatalogData}
use Rattle.cs_schema.specs.Losses.{Sites, IsLoss, loss_cmp}

-- the ascending lists of so many sites from one on, by their first sites
abbrev pub tails : ℕ → ℕ → ℕ → List Sites
tails sites from zero = [] ∷ []
tails sites from (suc count) = flat_map (λ x. map (λ T. x ∷ T) (tails sites (x + 1) count)) (range_with_len from (sites + 1 - from))

-- the chosen sites, with each tail
abbrev pub losses_from : ℕ → Sites → ℕ → ℕ → List Sites
losses_from sites chosen from count = map (λ T. chosen ++ T) (tails sites from count)

-- all losses of the catalog's sites of at most so many, in their order
pub record AreAllLosses (C : CatalogData) (at_most : ℕ) (losses : List Sites) : Type 0 where
  pub members : (L : Sites) → IsIn L losses ↔ (IsLoss C L × (length L ≤ at_most))
  pub in_order : IsStrictlySortedBy loss_cmp losses
