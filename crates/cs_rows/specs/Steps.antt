-- What the walk from one row relies on.
use Rattle.std.specs.Prelude.{ℕ, ◌≡◌, ◌<◌, ◌≤◌, length, slice_index, Some, true, IsTrue}
use Rattle.cs_schema.specs.CatalogData.{CatalogData, segments}
use Rattle.cs_safety.specs.PlanData.{PlanData, prev_of}
use Rattle.cs_safety.specs.Paths.{holds_column}
use Rattle.std.specs.Option.{option_and_then}
use Rattle.cs_rows.specs.Walk.{Contents, At, follow, stand}
use Rattle.cs_rows.specs.Routes.{HasDepth}
use Rattle.cs_safety.specs.PlanData.{is_planned}

-- a row of a projection's images
abbrev pub IsAt : CatalogData → Contents → ℕ → At → Type 0
IsAt C S q at = (at.0 < segments C q) × (at.1 < length (S.image q at.0).pairs)

-- the plan names projections of the catalog, reads each column in one that it reaches, and enters each one from the one
-- before it
pub record PlanFits (C : CatalogData) (P : PlanData) : Type 0 where
  pub few : length C.projections ≤ 8
  pub few_segments : (q : ℕ) → q < length C.projections → segments C q ≤ 16
  pub anchor : P.anchor < length C.projections
  pub prevs : length P.prev ≡ length C.projections
  pub prev : (q p : ℕ) → q < length C.projections → prev_of P q ≡ Some p → p < length C.projections
  pub sources : length P.source ≡ length C.columns
  pub source : (c : ℕ) → c < length C.columns → slice_index P.source c < length C.projections
  pub planned : (c : ℕ) → c < length C.columns → is_planned P (slice_index P.source c) ≡ true
  pub depth : (q : ℕ) → q < length C.projections → is_planned P q ≡ true → ∥ ((d : ℕ) × (d < length C.projections) × HasDepth P d q) ∥₁
  pub follows : (S : Contents) (at : At) (q p : ℕ) → q < length C.projections → prev_of P q ≡ Some p → stand C S P at q ≡ option_and_then (follow C S p q) (stand C S P at p)
  pub holds : (c : ℕ) → c < length C.columns → IsTrue (holds_column C (slice_index P.source c) c)
