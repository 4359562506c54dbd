-- The walk from anchor rows through the join indexes, along a plan.
use Rattle.std.specs.Prelude.{ℕ, zero, suc, ◌==◌, nat_lt, Bool, ◌&&◌, if◌then◌else◌, List, [], map, length, slice_index, slice_index_or, Option, Some, None, is_none, Result, Ok, Err}
use Rattle.std.specs.List.{flat_map, find, list_any, position_or_len}
use Rattle.std.specs.Option.{option_and_then, option_map, unwrap_or, option_map_or}
use Rattle.cs_schema.specs.declared.cells.Value.{Value}
use Rattle.cs_schema.specs.CatalogData.{CatalogData, projection, segments}
use Rattle.cs_schema.specs.Lists.{numbers_below}
use Rattle.cs_schema.specs.Rows.{Row, cell}
use Rattle.cs_delta.specs.Image.{ImageData, image_keys, image_rows, position_of_key}
use Rattle.cs_jix.specs.JoinIndex.{Place, entry_at}
use Rattle.cs_safety.specs.PlanData.{PlanData, prev_of, is_planned}

-- what the files of surviving segments hold: their images, and the entries of their join indexes
pub record Contents : Type 0 where
  pub image : ℕ → ℕ → ImageData
  pub join : ℕ → ℕ → ℕ → List Place

-- a row of a projection: its segment, and its position in the image
abbrev pub At : Type 0
At = ℕ × ℕ

-- the row to which an entry points, if its key is live
abbrev pub landed : CatalogData → Contents → ℕ → Place → Option At
landed C S q e = if nat_lt e.0 (segments C q) then option_map (λ i. (e.0, i)) (position_of_key (S.image q e.0) e.1) else None

-- the entry of a row of p in the join index to q
abbrev pub entry_of : Contents → ℕ → ℕ → At → Option Place
entry_of S p q at = entry_at (S.join p at.0 q) (slice_index (image_keys (S.image p at.0)) at.1)

-- the row of q to which a row of p leads
abbrev pub follow : CatalogData → Contents → ℕ → ℕ → At → Option At
follow C S p q at = option_and_then (landed C S q) (entry_of S p q at)

abbrev pub image_cell : CatalogData → Contents → ℕ → ℕ → At → Value
image_cell C S q c at = cell (slice_index_or (image_rows (S.image q at.0)) at.1 []) (position_or_len (λ d. d == c) (projection C q).columns)

-- ---- the walk of a plan

-- the row of q that the walk from an anchor row reaches in at most n steps
abbrev pub stands : CatalogData → Contents → PlanData → At → ℕ → ℕ → Option At
stands C S P at zero q = if q == P.anchor then Some at else None
stands C S P at (suc n) q = if q == P.anchor then Some at else option_and_then (λ p. option_and_then (follow C S p q) (stands C S P at n p)) (prev_of P q)

abbrev pub stand : CatalogData → Contents → PlanData → At → ℕ → Option At
stand C S P at q = stands C S P at (length C.projections) q

-- some step of the walk fails
abbrev pub is_astray : CatalogData → Contents → PlanData → At → Bool
is_astray C S P at = list_any (λ q. is_planned P q && is_none (stand C S P at q)) (numbers_below (length C.projections))

abbrev pub walked_cell : CatalogData → Contents → PlanData → At → ℕ → Value
walked_cell C S P at c = let q : ℕ = slice_index P.source c in image_cell C S q c (unwrap_or (stand C S P at q) (0, 0))

abbrev pub walked_row : CatalogData → Contents → PlanData → At → Row
walked_row C S P at = map (walked_cell C S P at) (numbers_below (length C.columns))

-- the rows of a segment, and of all segments of a projection in turn
abbrev pub segment_rows : Contents → ℕ → ℕ → List At
segment_rows S p s = map (λ i. (s, i)) (numbers_below (length (S.image p s).pairs))

abbrev pub projection_rows : CatalogData → Contents → ℕ → List At
projection_rows C S p = flat_map (segment_rows S p) (numbers_below (segments C p))

-- a row that the walk cannot follow: projection, segment and position in the image
abbrev pub Stray : Type 0
Stray = ℕ × ℕ × ℕ

-- the rows to which all anchor rows lead, or the first anchor row that is led astray
abbrev pub walked : CatalogData → Contents → PlanData → Result (List Row) Stray
walked C S P =
    option_map_or (λ at. Err (P.anchor, at.0, at.1)) (find (is_astray C S P) (projection_rows C S P.anchor))
    (Ok (map (walked_row C S P) (projection_rows C S P.anchor)))
