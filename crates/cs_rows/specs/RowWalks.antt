-- The walk by rows through survivors, stated of a `RowWalk`.
use Rattle.std.specs.Prelude.{ℕ, ◌≡◌, ◌++◌, List, drop, take, None}
use Rattle.std.specs.List.{filter_map, find}
use Rattle.cs_schema.specs.declared.cells.Cells.{Cells}
use Rattle.cs_schema.specs.Rows.{Row}
use Rattle.cs_rows.specs.WalkByRows.{Reached}
use Rattle.cs_rows.specs.Survivors.{contents_of}
use Rattle.cs_rows.specs.RangeByRows.{is_stray_row, given_row, surviving_between}
use Rattle.cs_rows.specs.RowSteps.{AreRows, IsStrayFault, projection_kept}
use Rattle.cs_rows.specs.declared.fault.WalkFault.{WalkFault}
use Rattle.cs_rows.specs.declared.levels.RowWalk.{RowWalk}

-- no walk from these rows is led astray
abbrev pub NoneAstray : RowWalk → List Reached → Type 0
NoneAstray walk rows = find (is_stray_row walk.survivors.now.catalog walk.loss (contents_of walk.survivors.now)) rows ≡ None

-- memory was refused, or the first of these rows that is led astray
abbrev pub IsFirstAstray : RowWalk → List Reached → WalkFault → Type 0
IsFirstAstray walk rows = IsStrayFault walk.survivors.now.catalog walk.loss (contents_of walk.survivors.now) rows

-- if the columns were the cells of some rows, they now are those of these rows and of the rows that the walks give
abbrev pub Extends : RowWalk → List Reached → List Cells → List Cells → Type 0
Extends walk from before after =
    (rows : List Row)
    → AreRows walk.survivors.now.catalog rows before
    → AreRows walk.survivors.now.catalog (rows ++ filter_map (given_row walk.fresh_only walk.survivors.now.catalog walk.loss (contents_of walk.survivors.now)) from) after

-- the surviving rows of a projection that are numbered start..end
abbrev pub rows_in_projection : RowWalk → ℕ → ℕ → ℕ → List Reached
rows_in_projection walk p start end = drop start (take end (projection_kept walk.survivors.now.catalog walk.loss (contents_of walk.survivors.now) p))

-- the surviving rows of all projections that are numbered start..end
abbrev pub rows_between : RowWalk → ℕ → ℕ → List Reached
rows_between walk start end = surviving_between walk.survivors.now.catalog walk.loss (contents_of walk.survivors.now) start end
