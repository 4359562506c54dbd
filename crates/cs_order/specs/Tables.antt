-- The table of walked rows.
use Rattle.std.specs.Prelude.{ℕ, Bool, false, ◌||◌, List, [], ◌∷◌, map, length}
use Rattle.std.specs.List.{flat_map, list_any}
use Rattle.cs_schema.specs.CatalogData.{CatalogData, segments}
use Rattle.cs_schema.specs.Lists.{numbers_below}
use Rattle.cs_schema.specs.Rows.{Row, cell, key_cmp}
use Rattle.cs_schema.specs.Values.{value_eq}
use Rattle.cs_schema.specs.Order.{ascending}

-- all segments in the order of their names
abbrev pub all_segments : CatalogData → List (ℕ × ℕ)
all_segments C = flat_map (λ p. map (λ s. (p, s)) (numbers_below (segments C p))) (numbers_below (length C.projections))

-- the table of rows with distinct keys: the rows by key
abbrev pub table_of : CatalogData → List Row → List Row
table_of C rows = ascending (key_cmp C) rows

abbrev pub is_twice : CatalogData → List Row → Bool
is_twice C [] = false
is_twice C (r ∷ rs) = list_any (λ x. value_eq (cell r C.key) (cell x C.key)) rs || is_twice C rs
