-- The walk of a plan through survivors, stated of a `PlanWalk`.
use Rattle.std.specs.Prelude.{ℕ, ◌≡◌, ◌<◌, ◌≤◌, ◌++◌, Bool, true, false, List, [], map, length, slice_index_or, None, Result}
use Rattle.std.specs.List.{find, flat_map}
use Rattle.cs_schema.specs.declared.cells.Value.{Value}
use Rattle.cs_schema.specs.Rows.{Row}
use Rattle.cs_rows.specs.Walk.{At, Stray, is_astray, projection_rows, walked, walked_cell, walked_row}
use Rattle.cs_rows.specs.Survivors.{contents_of}
use Rattle.cs_rows.specs.Columns.{PlacesAre, AreReachedIn, IsRowFault}
use Rattle.cs_rows.specs.Range.{rows_between, walked_among}
use Rattle.cs_rows.specs.declared.fault.WalkFault.{WalkFault}
use Rattle.cs_rows.specs.declared.follow.FollowedRows.{FollowedRows}
use Rattle.cs_rows.specs.declared.plan_walk.PlanWalk.{PlanWalk}

-- the walk from an anchor row is led astray
abbrev pub leads_astray : PlanWalk → At → Bool
leads_astray walk at = is_astray walk.survivors.now.catalog (contents_of walk.survivors.now) walk.plan.now at

-- no walk from these anchor rows is led astray
abbrev pub NoneAstray : PlanWalk → List At → Type 0
NoneAstray walk rows = find (is_astray walk.survivors.now.catalog (contents_of walk.survivors.now) walk.plan.now) rows ≡ None

-- memory was refused, or the first of these anchor rows that is led astray
abbrev pub IsFirstAstray : PlanWalk → List At → WalkFault → Type 0
IsFirstAstray walk rows = IsRowFault walk.survivors.now.catalog (contents_of walk.survivors.now) walk.plan.now rows

-- the rows that the walk from an anchor row reaches, one for each projection
abbrev pub AreReached : PlanWalk → At → List At → Type 0
AreReached walk row places = PlacesAre walk.survivors.now.catalog (contents_of walk.survivors.now) walk.plan.now row places (length walk.survivors.now.catalog.projections)

-- the cells of the table's column c to which anchor rows lead
abbrev pub cells_of : PlanWalk → List At → ℕ → List Value
cells_of walk rows c = map (λ at. walked_cell walk.survivors.now.catalog (contents_of walk.survivors.now) walk.plan.now at c) rows

-- for each projection other than the anchor in which a column is read, the rows of it to which anchor rows lead
abbrev pub AreFollowed : PlanWalk → List At → List (List At) → Type 0
AreFollowed walk ats ids =
    (q : ℕ)
    → q < length walk.survivors.now.catalog.projections
    → slice_index_or walk.elsewhere.items q false ≡ true
    → AreReachedIn walk.survivors.now.catalog (contents_of walk.survivors.now) walk.plan.now q ats (slice_index_or ids q [])

-- if these were the rows to which some anchor rows lead, they now are those of these rows and of `more`
abbrev pub Extends : PlanWalk → List At → List (List At) → List (List At) → Type 0
Extends walk more before after = (ats : List At) → AreFollowed walk ats before → AreFollowed walk (ats ++ more) after

-- the rows of the anchor, segment by segment
abbrev pub anchor_rows : PlanWalk → List At
anchor_rows walk = projection_rows walk.survivors.now.catalog (contents_of walk.survivors.now) walk.plan.now.anchor

-- the anchor's rows that are numbered start..end
abbrev pub anchor_rows_between : PlanWalk → ℕ → ℕ → List At
anchor_rows_between walk start end = rows_between walk.survivors.now.catalog (contents_of walk.survivors.now) walk.plan.now start end

-- the rows to which a range of the anchor's rows leads
pub record IsFollowed (walk : PlanWalk) (followed : FollowedRows) : Type 0 where
  pub count : length followed.ids.items ≡ length walk.survivors.now.catalog.projections
  pub order : followed.from ≤ followed.to
  pub are : AreFollowed walk (anchor_rows_between walk followed.from followed.to) followed.ids.items

-- the rows of the table to which these anchor rows lead, or the first of these that is led astray
abbrev pub walked_from : PlanWalk → List At → Result (List Row) Stray
walked_from walk rows = walked_among walk.survivors.now.catalog (contents_of walk.survivors.now) walk.plan.now rows

-- the rows of the table to which the anchor's rows lead
abbrev pub walked_rows : PlanWalk → List Row
walked_rows walk = map (walked_row walk.survivors.now.catalog (contents_of walk.survivors.now) walk.plan.now) (anchor_rows walk)

-- the rows of the table to which followed rows lead, one part after the other
abbrev pub followed_rows : PlanWalk → List FollowedRows → List Row
followed_rows walk parts =
    flat_map (λ (part : FollowedRows). map (walked_row walk.survivors.now.catalog (contents_of walk.survivors.now) walk.plan.now) (anchor_rows_between walk part.from part.to)) parts

-- the rows of the table to which the anchor's rows lead, or the first of these that is led astray
abbrev pub walk_result : PlanWalk → Result (List Row) Stray
walk_result walk = walked walk.survivors.now.catalog (contents_of walk.survivors.now) walk.plan.now
