-- The join indexes of some segments, as they are listed.
use Rattle.std.specs.Prelude.{ℕ, List, map, length}
use Rattle.std.specs.List.{filter, flat_map}
use Rattle.cs_schema.specs.CatalogData.{CatalogData, has_join}
use Rattle.cs_schema.specs.Lists.{numbers_below}

-- the join indexes of a segment into the first n projections
abbrev pub joins_at : CatalogData → ℕ → ℕ → ℕ → List (ℕ × ℕ × ℕ)
joins_at C p s n = map (λ q. (p, s, q)) (filter (has_join C p) (numbers_below n))

abbrev pub joins_among : CatalogData → List (ℕ × ℕ) → List (ℕ × ℕ × ℕ)
joins_among C segments = flat_map (λ (a : ℕ × ℕ). joins_at C a.0 a.1 (length C.projections)) segments
