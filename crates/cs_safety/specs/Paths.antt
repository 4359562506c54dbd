-- Paths of declared joins between projections.
use Rattle.std.specs.Prelude.{ℕ, suc, ◌<◌, ◌≤◌, Bool, length, IsTrue}
use Rattle.cs_schema.specs.Lists.{member}
use Rattle.cs_schema.specs.CatalogData.{CatalogData, projection, has_join}

-- a declared join leads from p to q, and q may be entered
pub record Step (C : CatalogData) (open_to : ℕ → Bool) (p q : ℕ) : Type 0 where
  pub exists : q < length C.projections
  pub declared : IsTrue (has_join C p q)
  pub may_enter : IsTrue (open_to q)

-- n joins lead from a to q through projections that may be entered
pub data Path (C : CatalogData) (open_to : ℕ → Bool) (a : ℕ) : ℕ → ℕ → Type 0 where
  start : Path C open_to a a 0
  join : {p q n : ℕ} → Path C open_to a p n → Step C open_to p q → Path C open_to a q (suc n)

abbrev pub IsReached : CatalogData → (ℕ → Bool) → ℕ → ℕ → Type 0
IsReached C open_to a q = (n : ℕ) × Path C open_to a q n

-- the least number of joins
pub record IsDistance (C : CatalogData) (open_to : ℕ → Bool) (a q n : ℕ) : Type 0 where
  pub path : Path C open_to a q n
  pub least : (m : ℕ) → Path C open_to a q m → n ≤ m

abbrev pub holds_column : CatalogData → ℕ → ℕ → Bool
holds_column C q c = member (projection C q).columns c

-- what a reaches holds every column
pub record IsSuitable (C : CatalogData) (open_to : ℕ → Bool) (a : ℕ) : Type 0 where
  pub exists : a < length C.projections
  pub may_start : IsTrue (open_to a)
  pub columns : (c : ℕ) → c < length C.columns → (q : ℕ) × (IsReached C open_to a q × IsTrue (holds_column C q c))
