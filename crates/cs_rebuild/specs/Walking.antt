-- What walks of pieces of rows find, by whole projections and by rows.
use Rattle.std.specs.Prelude.{◌≡◌, ℕ, ◌+◌, ◌<◌, ◌*◌, List, map, length, take, drop, slice_index_or, Option, None, IfSome, Result, Err}
use Rattle.std.specs.Option.{option_map, unwrap_or}
use Rattle.std.specs.List.{find, filter_map}
use Rattle.cs_store.specs.declared.fault.Fault.{Fault}
use Rattle.cs_store.specs.Fault.{MemoryOr}
use Rattle.cs_schema.specs.CatalogData.{CatalogData, column}
use Rattle.cs_schema.specs.declared.cells.Cells.{Cells}
use Rattle.cs_schema.specs.Values.{values, kind_of}
use Rattle.cs_schema.specs.Rows.{Row, cell}
use Rattle.cs_schema.specs.Losses.{Sites}
use Rattle.cs_safety.specs.PlanData.{PlanData}
use Rattle.cs_rows.specs.Walk.{Contents, At, Stray, projection_rows, is_astray}
use Rattle.cs_rows.specs.PlanWalks.{IsFollowed, walked_rows}
use Rattle.cs_rows.specs.WalkByRows.{Reached, surviving_rows}
use Rattle.cs_rows.specs.RangeByRows.{is_stray_row, fresh_row}
use Rattle.cs_rows.specs.WalkedView.{WalkedData}
use Rattle.cs_rows.specs.declared.follow.FollowedRows.{FollowedRows}
use Rattle.cs_rows.specs.declared.plan_walk.PlanWalk.{PlanWalk}

-- the i-th piece of a list
abbrev pub piece_of : {X : Type 0} → ℕ → List X → ℕ → List X
piece_of cut xs i = take cut (drop (i * cut) xs)

-- the kinds of the table's columns
abbrev pub HasTableKinds : CatalogData → WalkedData → Type 0
HasTableKinds C w = w.kinds ≡ map (λ c. c.kind) C.columns

-- the cells of rows in a column of the table
abbrev pub IsColumnOf : CatalogData → List Row → ℕ → Cells → Type 0
IsColumnOf C rows c cells = (kind_of cells ≡ (column C c).kind) × (values cells ≡ map (λ row. cell row c) rows)

-- each borrowed column of the table has the cells of the rows
abbrev pub AreBorrowed : CatalogData → List Row → List (Option Cells) → Type 0
AreBorrowed C rows borrowed = (c : ℕ) → c < length C.columns → IfSome (slice_index_or borrowed c None) (IsColumnOf C rows c)

-- out of memory, or the fault of the row at which the walk is led astray
abbrev pub IsWalkRefusal : Result (List Row) Stray → Fault → Type 0
IsWalkRefusal walked fault = MemoryOr fault ((at : Stray) × (walked ≡ Err at) × (fault ≡ Fault.Astray at.0 at.1 at.2))

-- ---- by whole projections

abbrev pub stray_fault : PlanData → At → Fault
stray_fault P at = Fault.Astray P.anchor at.0 at.1

-- the fault of the i-th piece: that of its first row that is led astray
abbrev pub WalkFaultAt : CatalogData → Contents → PlanData → ℕ → ℕ → Option Fault → Type 0
WalkFaultAt C S P cut i fault = fault ≡ option_map (stray_fault P) (find (is_astray C S P) (piece_of cut (projection_rows C S P.anchor) i))

-- the answer for the i-th piece: the rows to which its rows lead
pub record IsFollowedAt (walk : PlanWalk) (cut i : ℕ) (followed : FollowedRows) : Type 0 where
  pub is : IsFollowed walk followed
  pub from : followed.from ≡ i * cut
  pub to : followed.to ≡ i * cut + cut

-- each borrowed column of the table has the cells to which the anchor's rows lead
pub record AreBorrowedFromAnchor (walk : PlanWalk) (borrowed : List (Option Cells)) : Type 0 where
  pub are : AreBorrowed walk.survivors.now.catalog (walked_rows walk) borrowed

-- the borrowed column, or else the gathered one, has the cells to which the anchor's rows lead
pub record IsTableColumn (walk : PlanWalk) (borrowed : List (Option Cells)) (c : ℕ) (cells : Cells) : Type 0 where
  pub is : IsColumnOf walk.survivors.now.catalog (walked_rows walk) c (unwrap_or (slice_index_or borrowed c None) cells)

-- ---- by rows

abbrev pub stray_row_fault : Reached → Fault
stray_row_fault x = Fault.Astray x.0 x.1.0 x.1.1

abbrev pub RowsFaultAt : CatalogData → Sites → Contents → ℕ → ℕ → Option Fault → Type 0
RowsFaultAt C L S cut i fault = fault ≡ option_map stray_row_fault (find (is_stray_row C L S) (piece_of cut (surviving_rows C L S) i))

abbrev pub RowsAnswerAt : CatalogData → Sites → Contents → ℕ → ℕ → WalkedData → Type 0
RowsAnswerAt C L S cut i w = HasTableKinds C w × (w.rows ≡ filter_map (fresh_row C L S) (piece_of cut (surviving_rows C L S) i))
