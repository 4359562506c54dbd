-- The walk by rows from a range of the surviving rows.
use Rattle.std.specs.Prelude.{ℕ, Bool, if◌then◌else◌, List, take, drop, Option, Some, None, Result, Ok, Err}
use Rattle.std.specs.List.{filter_map, find}
use Rattle.std.specs.Option.{is_none, option_and_then, option_map_or}
use Rattle.cs_schema.specs.CatalogData.{CatalogData}
use Rattle.cs_schema.specs.Losses.{Sites}
use Rattle.cs_schema.specs.Rows.{Row}
use Rattle.cs_rows.specs.Walk.{Contents, Stray}
use Rattle.cs_rows.specs.WalkByRows.{Reached, Found, found_from, found_row, full_row, surviving_rows}
use Rattle.cs_rows.specs.Superprojections.{is_fresh, is_given}

-- the walk from a row is led astray
abbrev pub is_stray_row : CatalogData → Sites → Contents → Reached → Bool
is_stray_row C L S x = is_none (found_from C L S x.0 x.1)

-- the row that the walk from a row finds, if it is full
abbrev pub row_from : CatalogData → Sites → Contents → Reached → Option Row
row_from C L S x = option_and_then (full_row C S) (found_from C L S x.0 x.1)

-- the full row that the walk from a row finds, unless an earlier walk finds its key by itself
abbrev pub fresh_row : CatalogData → Sites → Contents → Reached → Option Row
fresh_row C L S x = option_and_then (λ (F : Found). if is_fresh C F then Some (found_row C S F) else None) (found_from C L S x.0 x.1)

-- the full row that the walk from a row finds; with `fresh_only`, unless an earlier walk finds its key by itself
abbrev pub given_row : Bool → CatalogData → Sites → Contents → Reached → Option Row
given_row fresh_only C L S x = option_and_then (λ (F : Found). if is_given fresh_only C F then Some (found_row C S F) else None) (found_from C L S x.0 x.1)

-- the surviving rows that are numbered start..end, over all segments
abbrev pub surviving_between : CatalogData → Sites → Contents → ℕ → ℕ → List Reached
surviving_between C L S start end = drop start (take end (surviving_rows C L S))

-- the full rows that the walks from some rows find, or the first of these rows that is led astray
abbrev pub found_among : CatalogData → Sites → Contents → List Reached → Result (List Row) Stray
found_among C L S xs = option_map_or (λ (x : Reached). Err (x.0, x.1.0, x.1.1)) (find (is_stray_row C L S) xs) (Ok (filter_map (row_from C L S) xs))

-- the full rows that the walks from some rows find, without those that an earlier walk finds by itself; or the first of
-- these rows that is led astray
abbrev pub fresh_among : CatalogData → Sites → Contents → List Reached → Result (List Row) Stray
fresh_among C L S xs = option_map_or (λ (x : Reached). Err (x.0, x.1.0, x.1.1)) (find (is_stray_row C L S) xs) (Ok (filter_map (fresh_row C L S) xs))

-- the rows of `fresh_among` if `fresh_only`, else those of `found_among`; or the first row that is led astray
abbrev pub given_among : Bool → CatalogData → Sites → Contents → List Reached → Result (List Row) Stray
given_among fresh_only C L S xs = option_map_or (λ (x : Reached). Err (x.0, x.1.0, x.1.1)) (find (is_stray_row C L S) xs) (Ok (filter_map (given_row fresh_only C L S) xs))
