-- What is reached within a number of joins, as a test: words of the private functions. A set of projections is a word of
-- bits, and `Paths` says the same of a catalog.
use Rattle.std.specs.Prelude.{◌≡◌, ℕ, zero, suc, ◌<◌, ◌≤◌, ◌==◌, Bool, true, ◌||◌, ◌&&◌, length, slice_index}
use Rattle.cs_schema.specs.CatalogData.{CatalogData, has_join}
use Rattle.cs_safety.specs.Paths.{holds_column}
use Rattle.cs_safety.specs.NumberSets.{is_in, some_below}
use Rattle.cs_safety.specs.declared.graph.Graph.{Graph}
use Rattle.cs_safety.specs.declared.reach.Levels.{Levels}

-- the joins and columns of the catalog's projections
pub record IsGraphOf (C : CatalogData) (g : Graph) : Type 0 where
  pub count : g.count ≡ length C.projections
  pub width : g.width ≡ length C.columns
  pub few : g.count ≤ 8
  pub narrow : g.width ≤ 32
  pub joins : (p : ℕ) → p < g.count → (q : ℕ) → is_in (slice_index g.joins p) q ≡ has_join C p q
  pub inside : (p : ℕ) → p < g.count → (q : ℕ) → is_in (slice_index g.joins p) q ≡ true → q < g.count
  pub columns : (p : ℕ) → p < g.count → (c : ℕ) → is_in (slice_index g.columns p) c ≡ holds_column C p c

-- what is reached, and the allowed ones to which one join more leads
abbrev pub entered : Graph → ℕ → (ℕ → Bool) → ℕ → Bool
entered g allowed reached q = reached q || (is_in allowed q && some_below g.count (λ p. reached p && is_in (slice_index g.joins p) q))

-- q is reached from a by at most k joins
abbrev pub within : Graph → ℕ → ℕ → ℕ → ℕ → Bool
within g allowed a zero q = q == a
within g allowed a (suc k) q = entered g allowed (within g allowed a k) q

-- the sets at 0 to 7 joins
abbrev pub AreLevels : Graph → Levels → Type 0
AreLevels g levels = (k : ℕ) → k < 8 → (q : ℕ) → is_in (slice_index levels.reached k) q ≡ within g levels.allowed levels.start k q

-- q is among the reached and holds the column
abbrev pub holds_among : Graph → (ℕ → Bool) → ℕ → ℕ → Bool
holds_among g reached c q = reached q && is_in (slice_index g.columns q) c

-- q is among the reached and has a join to r
abbrev pub joins_among : Graph → (ℕ → Bool) → ℕ → ℕ → Bool
joins_among g reached r q = reached q && is_in (slice_index g.joins q) r

-- a is allowed, and what it reaches holds every column
pub record Suits (g : Graph) (allowed a : ℕ) : Type 0 where
  pub exists : a < g.count
  pub may_start : is_in allowed a ≡ true
  pub columns : (c : ℕ) → c < g.width → (q : ℕ) × (q < g.count) × (holds_among g (within g allowed a 7) c q ≡ true)

-- the least-numbered of these
pub record IsFirstSuiting (g : Graph) (allowed a : ℕ) : Type 0 where
  pub suits : Suits g allowed a
  pub before : (b : ℕ) → b < a → ¬ Suits g allowed b
