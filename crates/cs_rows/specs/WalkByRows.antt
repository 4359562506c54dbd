-- The walk by rows: from every surviving row, level by level, through surviving segments.
use Rattle.std.specs.Prelude.{ℕ, zero, suc, nat_lt, Bool, true, false, not, ◌||◌, if◌then◌else◌, List, [], ◌∷◌, ◌++◌, map, length, Option, Some, None, is_some, is_none, Result, Ok, Err, pos}
use Rattle.std.specs.List.{filter, filter_map, flat_map, find, list_any, list_all}
use Rattle.std.specs.Option.{option_and_then, option_map, option_map_or}
use Rattle.cs_schema.specs.declared.cells.Value.{Value}
use Rattle.cs_schema.specs.CatalogData.{CatalogData, segments, has_join}
use Rattle.cs_schema.specs.Lists.{member, numbers_below}
use Rattle.cs_schema.specs.Losses.{lost, Sites}
use Rattle.cs_schema.specs.Rows.{Row, cell}
use Rattle.cs_schema.specs.Values.{value_eq}
use Rattle.cs_delta.specs.Image.{position_of_key}
use Rattle.cs_jix.specs.JoinIndex.{Place}
use Rattle.cs_safety.specs.Paths.{holds_column}
use Rattle.cs_rows.specs.Walk.{Contents, At, Stray, entry_of, image_cell, projection_rows}

-- a projection that a walk has reached, and the row of it
abbrev pub Reached : Type 0
Reached = ℕ × At

-- What a walk has found: the rows reached, by level and then by projection; those of its last level; the projections
-- whose segment is lost.
pub record Found : Type 0 where
  pub reached : List Reached
  pub last : List Reached
  pub marked : List ℕ

abbrev pub numbers_of : List Reached → List ℕ
numbers_of rs = map (λ (r : Reached). r.0) rs

-- how an entry to q ends: astray, at a lost segment, or at a row
pub data Landing : Type 0 where
  astray : Landing
  in_lost : Landing
  at_row : At → Landing

abbrev pub landing : CatalogData → Sites → Contents → ℕ → Option Place → Landing
landing C L S q None = Landing.astray
landing C L S q (Some e) =
    if nat_lt e.0 (segments C q)
    then (if lost C L q e.0 then Landing.in_lost else option_map_or (λ i. Landing.at_row (e.0, i)) (position_of_key (S.image q e.0) e.1) Landing.astray)
    else Landing.astray

-- the first row of the last level whose projection declares a join index to q
abbrev pub entrance : CatalogData → Found → ℕ → Option Reached
entrance C F q = find (λ (r : Reached). has_join C r.0 q) F.last

-- where the next level lands in q, if it looks there: unless q was reached or marked, and if the last level leads there
abbrev pub looked_at : CatalogData → Sites → Contents → Found → ℕ → Option (ℕ × Landing)
looked_at C L S F q = if member (numbers_of F.reached) q || member F.marked q then None else option_map (λ (r : Reached). (q, landing C L S q (entry_of S r.0 q r.1))) (entrance C F q)

abbrev pub is_stray_landing : ℕ × Landing → Bool
is_stray_landing x = elim x.1 [ astray ↦ true | in_lost ↦ false | at_row at ↦ false ]

abbrev pub row_landing : ℕ × Landing → Option Reached
row_landing x = elim x.1 [ astray ↦ None | in_lost ↦ None | at_row at ↦ Some (x.0, at) ]

abbrev pub lost_landing : ℕ × Landing → Option ℕ
lost_landing x = elim x.1 [ astray ↦ None | in_lost ↦ Some x.0 | at_row at ↦ None ]

abbrev pub level : CatalogData → Sites → Contents → Found → List (ℕ × Landing)
level C L S F = filter_map (looked_at C L S F) (numbers_below (length C.projections))

abbrev pub with_level : Found → List (ℕ × Landing) → Found
with_level F xs = record { reached = F.reached ++ filter_map row_landing xs; last = filter_map row_landing xs; marked = F.marked ++ filter_map lost_landing xs }

-- what a walk finds in n more levels, or `None` if it is led astray
abbrev pub found : CatalogData → Sites → Contents → ℕ → Found → Option Found
found C L S zero F = Some F
found C L S (suc n) F = if list_any is_stray_landing (level C L S F) then None else found C L S n (with_level F (level C L S F))

abbrev pub found_from : CatalogData → Sites → Contents → ℕ → At → Option Found
found_from C L S p at = found C L S (length C.projections) (record { reached = (p, at) ∷ []; last = (p, at) ∷ []; marked = [] })

-- the first reached row whose projection has the column
abbrev pub source_in : CatalogData → Found → ℕ → Option Reached
source_in C F c = find (λ (r : Reached). holds_column C r.0 c) F.reached

abbrev pub is_full : CatalogData → Found → Bool
is_full C F = list_all (λ c. is_some (source_in C F c)) (numbers_below (length C.columns))

abbrev pub found_row : CatalogData → Contents → Found → Row
found_row C S F = map (λ c. option_map_or (λ (r : Reached). image_cell C S r.0 c r.1) (source_in C F c) (Value.Int (pos 0))) (numbers_below (length C.columns))

abbrev pub full_row : CatalogData → Contents → Found → Option Row
full_row C S F = if is_full C F then Some (found_row C S F) else None

-- the rows of all surviving segments
abbrev pub surviving_rows : CatalogData → Sites → Contents → List (ℕ × At)
surviving_rows C L S = flat_map (λ p. map (λ (at : At). (p, at)) (filter (λ (at : At). not (lost C L p at.0)) (projection_rows C S p))) (numbers_below (length C.projections))

-- the rows without each one whose key occurs in an earlier row
abbrev pub without_repeats : CatalogData → List Row → List Row
without_repeats C [] = []
without_repeats C (r ∷ rs) = r ∷ filter (λ x. not (value_eq (cell r C.key) (cell x C.key))) (without_repeats C rs)

abbrev pub walked_by_rows : CatalogData → Sites → Contents → Result (List Row) Stray
walked_by_rows C L S =
    option_map_or (λ (x : ℕ × At). Err (x.0, x.1.0, x.1.1)) (find (λ (x : ℕ × At). is_none (found_from C L S x.0 x.1)) (surviving_rows C L S))
    (Ok (without_repeats C (filter_map (λ (x : ℕ × At). option_and_then (full_row C S) (found_from C L S x.0 x.1)) (surviving_rows C L S))))
