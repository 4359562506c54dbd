-- Losses that a catalog doesn't survive, together with what is lost already; and what stands on a site.
use Rattle.std.specs.Prelude.{◌≡◌, ℕ, ◌+◌, ◌≤◌, ◌++◌, ◌↔◌, List, length, slice_index, Option, MatchOption, IsTrue}
use Rattle.std.specs.Ordering.{nat_cmp}
use Rattle.std.specs.List.Sorted.{IsStrictlySortedBy}
use Rattle.cs_schema.specs.declared.file_name.FileName.{FileName}
use Rattle.cs_schema.specs.Lists.{IsIn, member}
use Rattle.cs_schema.specs.CatalogData.{CatalogData, projection}
use Rattle.cs_schema.specs.FileNames.{HasName, name_cmp, projection_of, segment_of}
use Rattle.cs_schema.specs.Losses.{Sites, IsLoss, loss_cmp}
use Rattle.cs_schema.specs.Order.{ascending}
use Rattle.cs_safety.specs.Safety.{IsSafe}
use Rattle.cs_safety.specs.Within.{IsWithin}

-- the sites of either loss, ascending
abbrev pub either : Sites → Sites → Sites
either L M = ascending nat_cmp (L ++ M)

-- some site is in both losses
abbrev pub SharesSite : Sites → Sites → Type 0
SharesSite L M = (x : ℕ) × IsTrue (member L x) × IsTrue (member M x)

-- no site is in both losses
abbrev pub IsApart : Sites → Sites → Type 0
IsApart L M = (x : ℕ) → IsTrue (member L x) → ¬ IsTrue (member M x)

-- a loss of the catalog's sites that is unsafe together with what is lost already
pub record IsFatal (C : CatalogData) (lost L : Sites) : Type 0 where
  pub loss : IsLoss C L
  pub is_unsafe : ¬ IsSafe C (either lost L)

-- the loss holds each site of one of these
abbrev pub HoldsOne : List Sites → Sites → Type 0
HoldsOne Ls L = (M : Sites) × IsIn M Ls × IsWithin M L

-- The least fatal losses: of sites beside what is lost, none within another, in the order of losses. A loss is fatal exactly where it holds one.
pub record AreFatalLosses (C : CatalogData) (lost : Sites) (fatal : List Sites) : Type 0 where
  pub each : (L : Sites) → IsIn L fatal → IsFatal C lost L
  pub beside : (L : Sites) → IsIn L fatal → IsApart L lost
  pub exact : (L : Sites) → IsLoss C L → (¬ IsSafe C (either lost L)) ↔ HoldsOne fatal L
  pub apart : (L M : Sites) → IsIn L fatal → IsIn M fatal → IsWithin L M → L ≡ M
  pub in_order : IsStrictlySortedBy loss_cmp fatal

-- what is lost already is safe with each loss of at most k sites
abbrev pub IsSafeBeyond : CatalogData → Sites → ℕ → Type 0
IsSafeBeyond C lost k = (L : Sites) → IsLoss C L → length L ≤ k → IsSafe C (either lost L)

-- some loss of k sites is fatal
abbrev pub IsFatalAt : CatalogData → Sites → ℕ → Type 0
IsFatalAt C lost k = (L : Sites) × IsFatal C lost L × (length L ≡ k)

-- the greatest number of sites of which any may fail, none where what is lost already is unsafe
abbrev pub IsGreatestK : CatalogData → Sites → Option ℕ → Type 0
IsGreatestK C lost result = MatchOption result (¬ IsSafe C lost) (λ k. IsSafeBeyond C lost k × IsFatalAt C lost (k + 1))

-- the site of the segment to which a file belongs
abbrev pub site_of : CatalogData → FileName → ℕ
site_of C n = slice_index (projection C (projection_of n)).sites (segment_of n)

-- the catalog's names that stand on a site, in their order
pub record AreFilesOfSite (C : CatalogData) (site : ℕ) (names : List FileName) : Type 0 where
  pub members : (n : FileName) → IsIn n names ↔ (HasName C n × (site_of C n ≡ site))
  pub in_order : IsStrictlySortedBy name_cmp names
