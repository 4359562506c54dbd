-- The columns that a walk has filled so far.
use Rattle.std.specs.Prelude.{ℕ, ◌≡◌, ◌≢◌, ◌<◌, ◌==◌, All, Bool, List, map, length, slice_index, slice_index_or, true, false, Some}
use Rattle.std.specs.List.{find, position_or_len, range_with_len}
use Rattle.cs_schema.specs.declared.cells.Cells.{Cells}
use Rattle.cs_schema.specs.Values.{values, kind_of}
use Rattle.cs_schema.specs.CatalogData.{CatalogData, column, projection}
use Rattle.cs_schema.specs.Rows.{Row, cell}
use Rattle.cs_safety.specs.PlanData.{PlanData}
use Rattle.cs_rows.specs.Walk.{Contents, At, is_astray, stand}
use Rattle.cs_safety.specs.PlanData.{is_planned}
use Rattle.cs_rows.specs.Steps.{IsAt}
use Rattle.cs_rows.specs.declared.fault.WalkFault.{WalkFault}

-- the walk from a row reaches each of the first n projections that the plan reaches, at the row that is listed for it
abbrev pub PlacesAre : CatalogData → Contents → PlanData → At → List At → ℕ → Type 0
PlacesAre C S P row places n = (q : ℕ) → q < n → is_planned P q ≡ true → (stand C S P row q ≡ Some (slice_index_or places q (0, 0))) × IsAt C S q (slice_index_or places q (0, 0))

-- the rows of q to which the walk leads from some anchor rows, one for each
pub record AreReachedIn (C : CatalogData) (S : Contents) (P : PlanData) (q : ℕ) (ats ids : List At) : Type 0 where
  pub are : map (λ id. Some id) ids ≡ map (λ at. stand C S P at q) ats
  pub there : All (IsAt C S q) ids

-- the index of a column of the table in the projection in which it is read
abbrev pub index_of : CatalogData → PlanData → ℕ → ℕ
index_of C P c = position_or_len (λ d. d == c) (projection C (slice_index P.source c)).columns

-- the index of each column of the table in the projection in which it is read
pub record AreIndices (C : CatalogData) (P : PlanData) (indices : List ℕ) : Type 0 where
  pub count : length indices ≡ length C.columns
  pub each : (c : ℕ) → c < length C.columns → slice_index indices c ≡ index_of C P c

-- which projections other than the anchor have a column that is read there
pub record AreElsewhere (C : CatalogData) (P : PlanData) (elsewhere : List Bool) : Type 0 where
  pub count : length elsewhere ≡ length C.projections
  pub anchor : slice_index_or elsewhere P.anchor false ≡ false
  pub only : (q : ℕ) → q < length C.projections → slice_index_or elsewhere q false ≡ true → ∥ ((c : ℕ) × (c < length C.columns) × (slice_index P.source c ≡ q)) ∥₁
  pub all : (c : ℕ) → c < length C.columns → slice_index P.source c ≢ P.anchor → slice_index_or elsewhere (slice_index P.source c) false ≡ true

-- for each column of the table, one column of its kind
pub record ColumnsFit (C : CatalogData) (columns : List Cells) : Type 0 where
  pub count : length columns ≡ length C.columns
  pub kinds : (c : ℕ) (d : Cells) → c < length C.columns → kind_of (slice_index_or columns c d) ≡ (column C c).kind

-- the cells of some rows in a column of the table
pub record IsColumn (C : CatalogData) (rows : List Row) (c : ℕ) (made : Cells) : Type 0 where
  pub kind : kind_of made ≡ (column C c).kind
  pub cells : values made ≡ map (λ row. cell row c) rows

-- n rows of a segment, from `start` on
abbrev pub rows_from : ℕ → ℕ → ℕ → List At
rows_from s start n = map (λ i. (s, i)) (range_with_len start n)

-- out of memory, or the first row that is led astray
abbrev pub IsRowFault : CatalogData → Contents → PlanData → List At → WalkFault → Type 0
IsRowFault C S P ats WalkFault.Memory = Unit {0}
IsRowFault C S P ats (WalkFault.Astray p s row) = (p ≡ P.anchor) × (find (is_astray C S P) ats ≡ Some (s, row))
