-- The walk of a range of the anchor's rows.
use Rattle.std.specs.Prelude.{ℕ, ◌≡◌, List, map, drop, take, Result, Ok, Err}
use Rattle.std.specs.List.{find}
use Rattle.std.specs.Option.{option_map_or}
use Rattle.cs_schema.specs.CatalogData.{CatalogData}
use Rattle.cs_schema.specs.Rows.{Row}
use Rattle.cs_schema.specs.Losses.{Sites}
use Rattle.cs_safety.specs.PlanData.{PlanData, IsPlan}
use Rattle.cs_rows.specs.Walk.{Contents, At, Stray, projection_rows, is_astray, walked_row}
use Rattle.cs_rows.specs.declared.fault.WalkFault.{WalkFault}

-- the rows to which some anchor rows lead, or the first of these that is led astray
abbrev pub walked_among : CatalogData → Contents → PlanData → List At → Result (List Row) Stray
walked_among C S P ats = option_map_or (λ at. Err (P.anchor, at.0, at.1)) (find (is_astray C S P) ats) (Ok (map (walked_row C S P) ats))

-- the anchor's rows that are numbered start..end, over all its segments
abbrev pub rows_between : CatalogData → Contents → PlanData → ℕ → ℕ → List At
rows_between C S P start end = drop start (take end (projection_rows C S P.anchor))

abbrev pub IsPlanOf : CatalogData → PlanData → Type 0
IsPlanOf C P = (L : Sites) × IsPlan C L P

-- out of memory, or the first row that is led astray
abbrev pub IsWalkFault : Result (List Row) Stray → WalkFault → Type 0
IsWalkFault walk WalkFault.Memory = Unit {0}
IsWalkFault walk (WalkFault.Astray p s row) = walk ≡ Err (p, s, row)
