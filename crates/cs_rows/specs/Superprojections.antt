-- Rows of projections that have every column of the table.
use Rattle.std.specs.Prelude.{ℕ, nat_lt, ◌≡◌, Bool, true, false, not, ◌&&◌, if◌then◌else◌, List, [], ◌∷◌, map, length}
use Rattle.std.specs.List.{find, list_all}
use Rattle.std.specs.Option.{option_map_or}
use Rattle.cs_schema.specs.declared.cells.Value.{Value}
use Rattle.cs_schema.specs.CatalogData.{CatalogData}
use Rattle.cs_schema.specs.Lists.{numbers_below}
use Rattle.cs_safety.specs.Paths.{holds_column}
use Rattle.cs_rows.specs.Walk.{Contents, image_cell}
use Rattle.cs_rows.specs.WalkByRows.{Reached, Found, numbers_of, is_full}

-- each column of the table is in the projection
abbrev pub has_all : CatalogData → ℕ → Bool
has_all C p = list_all (holds_column C p) (numbers_below (length C.columns))

abbrev pub HasAll : CatalogData → ℕ → Type 0
HasAll C p = has_all C p ≡ true

-- the cells of some rows in a column, each read in the row's own image
abbrev pub own_cells : CatalogData → Contents → List Reached → ℕ → List Value
own_cells C S xs c = map (λ (x : Reached). image_cell C S x.0 c x.1) xs

-- Whether an earlier walk finds the row of a walk that starts in the first of these projections and reaches them all.
-- It does if the key is read in a projection that comes before the first and has every column: the walk from the row
-- there comes earlier, and finds a row with that key by itself.
abbrev pub is_found_before : CatalogData → List ℕ → Bool
is_found_before C [] = false
is_found_before C (p ∷ ps) = option_map_or (λ q. nat_lt q p && has_all C q) (find (λ q. holds_column C q C.key) (p ∷ ps)) false

-- the walk found a full row that no earlier walk finds
abbrev pub is_fresh : CatalogData → Found → Bool
is_fresh C F = is_full C F && not (is_found_before C (numbers_of F.reached))

-- the walk found a full row and, with `fresh_only`, no earlier walk finds it
abbrev pub is_given : Bool → CatalogData → Found → Bool
is_given fresh_only C F = if fresh_only then is_fresh C F else is_full C F
