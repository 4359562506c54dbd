-- The search for the first unsafe loss, by the sites that it adds to some chosen ones: words of the private functions.
use Rattle.std.specs.Prelude.{◌≡◌, ℕ, ◌≤◌, ◌++◌, length, Option, MatchOption, IsTrue}
use Rattle.std.specs.Ordering.{nat_cmp}
use Rattle.std.specs.Cmp.Lexicographic.{slice_cmp}
use Rattle.std.specs.List.Sorted.{IsStrictlySortedBy}
use Rattle.std.specs.declared.cmp.Ordering.TheVariants.{Less}
use Rattle.cs_schema.specs.Lists.{member}
use Rattle.cs_schema.specs.CatalogData.{CatalogData}
use Rattle.cs_schema.specs.Losses.{Sites}
use Rattle.cs_safety.specs.Safety.{IsSafe}

-- so many of the catalog's sites, ascending, none below a site
pub record IsTail (C : CatalogData) (from count : ℕ) (T : Sites) : Type 0 where
  pub in_order : IsStrictlySortedBy nat_cmp T
  pub low : (x : ℕ) → IsTrue (member T x) → from ≤ x
  pub high : (x : ℕ) → IsTrue (member T x) → x ≤ C.sites
  pub size : length T ≡ count

-- the first tail that makes the chosen sites an unsafe loss
pub record IsUnsafeTail (C : CatalogData) (chosen : Sites) (from count : ℕ) (L : Sites) : Type 0 where
  pub tail : Sites
  pub is_tail : IsTail C from count tail
  pub is : L ≡ chosen ++ tail
  pub is_unsafe : ¬ IsSafe C L
  pub before : (T : Sites) → IsTail C from count T → slice_cmp nat_cmp T tail ≡ Less → IsSafe C (chosen ++ T)

-- none where each tail makes a safe loss
abbrev pub IsFirstUnsafeTail : CatalogData → Sites → ℕ → ℕ → Option Sites → Type 0
IsFirstUnsafeTail C chosen from count result = MatchOption result ((T : Sites) → IsTail C from count T → IsSafe C (chosen ++ T)) (λ L. IsUnsafeTail C chosen from count L)
