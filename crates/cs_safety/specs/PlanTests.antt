-- Entrances and sources of a plan, as tests: words of the private functions. `PlanData` says the same by distances.
use Rattle.std.specs.Prelude.{◌≡◌, ℕ, ◌<◌, ◌+◌, true, false, Option, MatchOption}
use Rattle.cs_safety.specs.NumberSets.{IsFirst}
use Rattle.cs_safety.specs.Reach.{within, holds_among, joins_among}
use Rattle.cs_safety.specs.declared.graph.Graph.{Graph}

-- q is first reached by one join more than p, the least that has a join to q
pub record IsEntry (g : Graph) (allowed a q p : ℕ) : Type 0 where
  pub level : ℕ
  pub near : level < 7
  pub here : within g allowed a (level + 1) q ≡ true
  pub not_before : within g allowed a level q ≡ false
  pub first : IsFirst g.count (joins_among g (within g allowed a level) q) p

-- none where q is the start or is not reached
abbrev pub IsEntrance : Graph → ℕ → ℕ → ℕ → Option ℕ → Type 0
IsEntrance g allowed a q result = MatchOption result ((k : ℕ) → k < 7 → within g allowed a (k + 1) q ≡ true → within g allowed a k q ≡ true) (λ p. IsEntry g allowed a q p)

-- q is the first at the least level with a holder of the column
pub record IsNearestHolder (g : Graph) (allowed a c q : ℕ) : Type 0 where
  pub level : ℕ
  pub near : level < 8
  pub first : IsFirst g.count (holds_among g (within g allowed a level) c) q
  pub none_nearer : (k r : ℕ) → k < level → r < g.count → holds_among g (within g allowed a k) c r ≡ false

-- none where nothing that is reached holds the column
abbrev pub IsNearest : Graph → ℕ → ℕ → ℕ → Option ℕ → Type 0
IsNearest g allowed a c result = MatchOption result ((r : ℕ) → r < g.count → holds_among g (within g allowed a 7) c r ≡ false) (λ q. IsNearestHolder g allowed a c q)
