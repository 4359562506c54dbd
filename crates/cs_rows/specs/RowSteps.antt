-- The steps of a walk by rows.
use Rattle.std.specs.Prelude.{ℕ, Bool, true, not, ◌&&◌, ◌≡◌, ◌<◌, ◌==◌, ◌++◌, List, [], ◌∷◌, All, map, take, length, slice_index, slice_index_or, Some, None, if◌then◌else◌}
use Rattle.std.specs.List.{find, flat_map, list_all, position_or_len, range_with_len}
use Rattle.std.specs.Option.{is_some}
use Rattle.cs_schema.specs.declared.cells.Cells.{Cells}
use Rattle.cs_schema.specs.Values.{values, kind_of}
use Rattle.cs_schema.specs.CatalogData.{CatalogData, projection, segments}
use Rattle.cs_schema.specs.Lists.{numbers_below}
use Rattle.cs_schema.specs.Losses.{Sites, lost}
use Rattle.cs_schema.specs.Rows.{Row, cell}
use Rattle.cs_safety.specs.Paths.{holds_column}
use Rattle.cs_rows.specs.declared.levels.JoinTarget.{JoinTarget}
use Rattle.cs_rows.specs.declared.column_sources.Source.{Source}
use Rattle.cs_rows.specs.declared.column_sources.ColumnSources.{ColumnSources}
use Rattle.cs_rows.specs.declared.fault.WalkFault.{WalkFault}
use Rattle.cs_rows.specs.Walk.{Contents}
use Rattle.cs_rows.specs.WalkByRows.{Reached, Found, Landing, numbers_of}
use Rattle.cs_rows.specs.RangeByRows.{is_stray_row}
use Rattle.cs_rows.specs.Superprojections.{is_found_before}
use Rattle.cs_rows.specs.Steps.{IsAt}

-- ---- levels

abbrev pub landing_of : JoinTarget → Landing
landing_of JoinTarget.Astray = Landing.astray
landing_of JoinTarget.Lost = Landing.in_lost
landing_of (JoinTarget.Row at) = Landing.at_row at

-- a projection that a level looks at, with its landing
abbrev pub landing_at : ℕ → JoinTarget → ℕ × Landing
landing_at q l = (q, landing_of l)

abbrev pub landings_of : List (ℕ × JoinTarget) → List (ℕ × Landing)
landings_of xs = map (λ (x : ℕ × JoinTarget). landing_at x.0 x.1) xs

-- a walk that has found only the row from which it starts
abbrev pub started : Reached → Found
started row = record { reached = row ∷ []; last = row ∷ []; marked = [] }

-- a row of an image
abbrev pub Stands : CatalogData → Contents → Reached → Type 0
Stands C S row = (row.0 < length C.projections) × IsAt C S row.0 row.1

-- a landing at a row is at a row of an image
abbrev pub LandsWell : CatalogData → Contents → ℕ → JoinTarget → Type 0
LandsWell C S q JoinTarget.Astray = Unit {0}
LandsWell C S q JoinTarget.Lost = Unit {0}
LandsWell C S q (JoinTarget.Row at) = Stands C S (q, at)

abbrev pub AllLandWell : CatalogData → Contents → List (ℕ × JoinTarget) → Type 0
AllLandWell C S xs = All (λ (x : ℕ × JoinTarget). LandsWell C S x.0 x.1) xs

-- the rows that a walk has reached are rows of images
pub record AllStand (C : CatalogData) (S : Contents) (F : Found) : Type 0 where
  pub reached : All (Stands C S) F.reached
  pub last : All (Stands C S) F.last

-- ---- rows

-- where a column is read if rows were reached in some projections: in the first that has it, at its index there
pub record IsSource (C : CatalogData) (ps : List ℕ) (c : ℕ) (source : Source) : Type 0 where
  pub within : source.reached < length ps
  pub before : find (λ p. holds_column C p c) (take source.reached ps) ≡ None
  pub place : source.place ≡ position_or_len (λ d. d == c) (projection C (slice_index ps source.reached)).columns
  pub there : source.place < length (projection C (slice_index ps source.reached)).columns

abbrev pub AreSources : CatalogData → List ℕ → List Source → ℕ → Type 0
AreSources C ps sources n = (c : ℕ) (d : Source) → c < n → IsSource C ps c (slice_index_or sources c d)

-- each column of the table is in one of the projections
abbrev pub have_all : CatalogData → List ℕ → Bool
have_all C ps = list_all (λ c. is_some (find (λ p. holds_column C p c) ps)) (numbers_below (length C.columns))

-- Whether rows that are reached in some projections are given, and where each column is read if they are. They are
-- given if the projections have every column and, with `fresh_only`, no earlier walk finds them.
pub record AreColumnSources (fresh_only : Bool) (C : CatalogData) (sources : ColumnSources) : Type 0 where
  pub count : length sources.sources.items ≡ length C.columns
  pub given : sources.given ≡ (have_all C sources.projections.items && not (fresh_only && is_found_before C sources.projections.items))
  pub each : sources.given ≡ true → AreSources C sources.projections.items sources.sources.items (length C.columns)

-- where each column is read of a full row that was found through rows of images
pub record AreSourcesOf (C : CatalogData) (S : Contents) (rs : List Reached) (sources : List Source) : Type 0 where
  pub count : length sources ≡ length C.columns
  pub stand : All (Stands C S) rs
  pub each : AreSources C (numbers_of rs) sources (length C.columns)

-- what is found through the rows that were reached
abbrev pub through : List Reached → Found
through rs = record { reached = rs; last = []; marked = [] }

-- the cells of a row have been appended to each of the first n columns
abbrev pub RowPushed : Row → List Cells → List Cells → ℕ → Type 0
RowPushed row before after n = (c : ℕ) (d : Cells) → c < n → (kind_of (slice_index_or after c d) ≡ kind_of (slice_index_or before c d)) × (values (slice_index_or after c d) ≡ values (slice_index_or before c d) ++ cell row c ∷ [])

-- the columns are the cells of some rows
abbrev pub AreRows : CatalogData → List Row → List Cells → Type 0
AreRows C rows columns = (c : ℕ) (d : Cells) → c < length C.columns → values (slice_index_or columns c d) ≡ map (λ r. cell r c) rows

-- a row of a segment
abbrev pub row_at : ℕ → ℕ → ℕ → Reached
row_at p s i = (p, (s, i))

-- n rows of a segment, from `start` on
abbrev pub reached_from : ℕ → ℕ → ℕ → ℕ → List Reached
reached_from p s start n = map (row_at p s) (range_with_len start n)

-- the number of surviving rows of a segment
abbrev pub kept_count : CatalogData → Sites → Contents → ℕ → ℕ → ℕ
kept_count C L S p s = if lost C L p s then 0 else length (S.image p s).pairs

-- the surviving rows of a segment
abbrev pub kept_rows : CatalogData → Sites → Contents → ℕ → ℕ → List Reached
kept_rows C L S p s = reached_from p s 0 (kept_count C L S p s)

-- the surviving rows of a projection
abbrev pub projection_kept : CatalogData → Sites → Contents → ℕ → List Reached
projection_kept C L S p = flat_map (kept_rows C L S p) (numbers_below (segments C p))

-- out of memory, or the first row that is led astray
abbrev pub IsStrayFault : CatalogData → Sites → Contents → List Reached → WalkFault → Type 0
IsStrayFault C L S xs WalkFault.Memory = Unit {0}
IsStrayFault C L S xs (WalkFault.Astray p s row) = find (is_stray_row C L S) xs ≡ Some (row_at p s row)
