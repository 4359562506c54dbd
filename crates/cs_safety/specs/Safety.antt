-- Safety of losses, for whole projections and by rows (K-safety of C-Store, VLDB 2005).
use Rattle.std.specs.Prelude.{◌≡◌, ℕ, ◌<◌, ◌≤◌, Bool, false, not, length}
use Rattle.std.specs.declared.cmp.Ordering.TheVariants.{Less}
use Rattle.cs_schema.specs.declared.kinds.Safety.{Safety}
use Rattle.cs_schema.specs.CatalogData.{CatalogData, segments}
use Rattle.cs_schema.specs.Losses.{Sites, IsLoss, lost, alive, loss_cmp}
use Rattle.cs_schema.specs.Rows.{Row, IsRow, segment_of_row}
use Rattle.cs_safety.specs.Paths.{IsSuitable}

-- no segment of the projection is lost
abbrev pub IsAlive : CatalogData → Sites → ℕ → Type 0
IsAlive C L p = (s : ℕ) → s < segments C p → lost C L p s ≡ false

-- some alive projection reaches every column
abbrev pub IsWhole : CatalogData → Sites → Type 0
IsWhole C L = (a : ℕ) × IsSuitable C (alive C L) a

-- the projections whose segment that holds the row is not lost
abbrev pub with_row : CatalogData → Sites → Row → ℕ → Bool
with_row C L r p = not (lost C L p (segment_of_row C p r))

-- from each row that a table could have, some projection with it reaches every column
abbrev pub IsSafeByRows : CatalogData → Sites → Type 0
IsSafeByRows C L = (r : Row) → IsRow C r → (a : ℕ) × IsSuitable C (with_row C L r) a

abbrev pub IsSafeBy : Safety → CatalogData → Sites → Type 0
IsSafeBy Safety.Whole C L = IsWhole C L
IsSafeBy Safety.Rows C L = IsSafeByRows C L

-- safe by the catalog's own rule
abbrev pub IsSafe : CatalogData → Sites → Type 0
IsSafe C L = IsSafeBy C.safety C L

-- each loss of at most k sites is safe
abbrev pub IsKSafe : CatalogData → ℕ → Type 0
IsKSafe C k = (L : Sites) → IsLoss C L → length L ≤ k → IsSafe C L

-- the first loss of at most k sites that is not safe
pub record IsFirstUnsafe (C : CatalogData) (k : ℕ) (L : Sites) : Type 0 where
  pub loss : IsLoss C L
  pub count : length L ≤ k
  pub is_unsafe : ¬ IsSafe C L
  pub before : (M : Sites) → IsLoss C M → loss_cmp M L ≡ Less → IsSafe C M
