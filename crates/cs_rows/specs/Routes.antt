-- The route of a plan: the projections that the walk reaches, each with the one from which it is entered.
use Rattle.std.specs.Prelude.{ℕ, zero, suc, ◌≡◌, ◌<◌, ◌==◌, ◌||◌, Bool, true, false, List, take, length, slice_index_or, Option, Some, None}
use Rattle.std.specs.List.{list_any}
use Rattle.cs_schema.specs.CatalogData.{CatalogData}
use Rattle.cs_safety.specs.PlanData.{PlanData, prev_of, is_planned}

-- a projection, and the one from which it is entered
abbrev pub RouteStep : Type 0
RouteStep = ℕ × ℕ

-- the projection is the anchor or on the route
abbrev pub is_met : PlanData → List RouteStep → ℕ → Bool
is_met P route q = (q == P.anchor) || list_any (λ (step : RouteStep). step.0 == q) route

-- a step of the plan from a projection that was met before
pub record IsStep (C : CatalogData) (P : PlanData) (before : List RouteStep) (step : RouteStep) : Type 0 where
  pub exists : step.0 < length C.projections
  pub prev : prev_of P step.0 ≡ Some step.1
  pub met : is_met P before step.1 ≡ true

-- each step starts at a projection that was met before, and the steps meet each projection that the plan reaches
pub record IsRoute (C : CatalogData) (P : PlanData) (route : List RouteStep) : Type 0 where
  pub steps : (k : ℕ) (d : RouteStep) → k < length route → IsStep C P (take k route) (slice_index_or route k d)
  pub all : (q : ℕ) → q < length C.projections → is_planned P q ≡ true → is_met P route q ≡ true

-- the plan reaches q in d steps from the anchor
abbrev pub HasDepth : PlanData → ℕ → ℕ → Type 0
HasDepth P zero q = q ≡ P.anchor
HasDepth P (suc d) q = (p : ℕ) × (prev_of P q ≡ Some p) × HasDepth P d p

-- the step to q, or why there is none: q was met before, or the projection that leads to it was not
abbrev pub IsNextStep : PlanData → List RouteStep → ℕ → Option RouteStep → Type 0
IsNextStep P route q None = is_met P route q ≡ false → (p : ℕ) → prev_of P q ≡ Some p → is_met P route p ≡ false
IsNextStep P route q (Some step) = (step.0 ≡ q) × (prev_of P q ≡ Some step.1) × (is_met P route step.1 ≡ true)
