-- The plan of a recovery.
use Rattle.std.specs.Prelude.{◌≡◌, ◌≢◌, ℕ, suc, ◌<◌, ◌≤◌, ◌==◌, ◌||◌, Bool, List, length, slice_index, slice_index_or, Option, None, is_some, MatchOption, IsTrue, ◌⊎◌}
use Rattle.cs_schema.specs.CatalogData.{CatalogData}
use Rattle.cs_schema.specs.Losses.{Sites, alive}
use Rattle.cs_safety.specs.Paths.{Step, IsReached, IsDistance, IsSuitable, holds_column}

-- the projection from which the walk begins, the one from which it enters each other that it reaches, and where each column is read
pub record PlanData : Type 0 where
  pub anchor : ℕ
  pub prev : List (Option ℕ)
  pub source : List ℕ

abbrev pub prev_of : PlanData → ℕ → Option ℕ
prev_of P q = slice_index_or P.prev q None

-- the walk comes to q
abbrev pub is_planned : PlanData → ℕ → Bool
is_planned P q = (q == P.anchor) || is_some (prev_of P q)

-- an alive projection with a join to q, one join nearer to the anchor
pub record IsNearer (C : CatalogData) (L : Sites) (a p q : ℕ) : Type 0 where
  pub step : Step C (alive C L) p q
  pub nearer : (n : ℕ) × (IsDistance C (alive C L) a p n × IsDistance C (alive C L) a q (suc n))

-- the least-numbered of these
pub record IsPrev (C : CatalogData) (L : Sites) (a q p : ℕ) : Type 0 where
  pub other : q ≢ a
  pub nearer : IsNearer C L a p q
  pub least : (r : ℕ) → IsNearer C L a r q → p ≤ r

-- a reached projection with the column: the nearest to the anchor, of these the one of the least number
pub record IsSource (C : CatalogData) (L : Sites) (a c q : ℕ) : Type 0 where
  pub column : IsTrue (holds_column C q c)
  pub distance : ℕ
  pub at_distance : IsDistance C (alive C L) a q distance
  pub least : (r n : ℕ) → IsDistance C (alive C L) a r n → IsTrue (holds_column C r c) → (distance < n) ⊎ ((distance ≡ n) × (q ≤ r))

-- the plan from the least-numbered suitable projection
pub record IsPlan (C : CatalogData) (L : Sites) (P : PlanData) : Type 0 where
  pub anchor : IsSuitable C (alive C L) P.anchor
  pub least : (a : ℕ) → IsSuitable C (alive C L) a → P.anchor ≤ a
  pub prevs : length P.prev ≡ length C.projections
  pub prev : (q : ℕ) → q < length C.projections → MatchOption (prev_of P q) ((q ≡ P.anchor) ⊎ ¬ IsReached C (alive C L) P.anchor q) (λ p. IsPrev C L P.anchor q p)
  pub sources : length P.source ≡ length C.columns
  pub source : (c : ℕ) → c < length C.columns → IsSource C L P.anchor c (slice_index P.source c)
