use Rattle.std.proofs.Common.{◌<◌, ℕ, List, Result, Ok, length, map, subst}
use Rattle.std.specs.Prelude.{IfOk}
use Rattle.std.specs.List.{AllZip, range_with_len}
use Rattle.std.specs.declared.alloc.AllocError.{AllocError}
use Rattle.rayon.proofs.ListFacts.{AllZip-weaken, IfOk-then}
use Rattle.rayon.proofs.ToStd.{nat_range-All}
use Rattle.cs_schema.specs.declared.cells.Cells.{Cells}
use Rattle.cs_schema.specs.Rows.{Row}
use Rattle.cs_rows.specs.PlanWalks.{walked_rows}
use Rattle.cs_rebuild.specs.Walking.{IsTableColumn}
use Rattle.cs_rows.proofs.Collected.{all_there, zipped_as}
use Rattle.cs_rebuild.proofs.AppendedColumns.{IsJoined, joined_fit, joined_rows}
use Rattle.cs_rebuild.proofs.gathering.gather_columns.Given.{Over}
use Rattle.cs_rebuild.proofs.gathering.gather_columns.Goals as goal

pub collect-requires-clause-ready : goal.collect-requires-clause-ready
collect-requires-clause-ready g c κs within =
    let ends = c.into_par_iter.ensures in
    let inside = nat_range-All (λ i. i < length c.args.walk.now.survivors.now.catalog.columns) 0 (length c.args.walk.now.survivors.now.catalog.columns) (λ i low high. high) in
    rw (c.map.ensures.base, c.map.ensures.f, c.with_min_len.ensures.base, ends.0, ends.1, c.column_count.ensures.count)
    (λ k d lt. ((c.requires.parts, (c.requires.whole, (inside k d lt, c.requires.borrowed))), λ y p. tt))

module _ (g : Over) (c : goal.In_ok-collect g) where
  abbrev IsMade : ℕ → Result Cells AllocError → Type 0
  IsMade k r = IfOk r (IsTableColumn c.args.walk.now c.args.borrowed.now k)

  abbrev rows : List Row
  rows = walked_rows c.args.walk.now

  made_columns : IfOk c.in_ok-collect.field-0 (λ columns. AllZip IsMade (range_with_len 0 (length c.args.walk.now.survivors.now.catalog.columns)) (map Ok columns.items))
  made_columns =
      let ends = c.into_par_iter.ensures in
      let h = c.in_ok-collect.ensures in
      let numbers = rw (c.map.ensures.base, c.with_min_len.ensures.base, ends.0, ends.1) at h.1.1 in
      let zipped = zipped_as IsMade h.1.0 h.0 h.1.2 (λ k r made. rw c.map.ensures.f at made) in
      subst (λ n. IfOk c.in_ok-collect.field-0 (λ columns. AllZip IsMade (range_with_len 0 n) (map Ok columns.items))) c.column_count.ensures.count
      (all_there IsMade (λ columns. columns.items) c.column_count.result h.1.0 h.0 c.in_ok-collect.field-0 numbers zipped h.2)

  -- each column has the cells to which the anchor's rows lead
  there : (columns : List Cells) → AllZip IsMade (range_with_len 0 (length c.args.walk.now.survivors.now.catalog.columns)) (map Ok columns) → AllZip (IsJoined c.args.walk.now.survivors.now.catalog rows c.args.borrowed.now) (range_with_len 0 (length c.args.walk.now.survivors.now.catalog.columns)) (map Ok columns)
  there columns = AllZip-weaken IsMade (IsJoined c.args.walk.now.survivors.now.catalog rows c.args.borrowed.now) (λ k r h. IfOk-then r _ _ h (λ cells made. made.is)) (range_with_len 0 (length c.args.walk.now.survivors.now.catalog.columns)) (map Ok columns)

pub returns-clause-fit : goal.returns-clause-fit
returns-clause-fit g c = IfOk-then c.in_ok-collect.field-0 _ _ (made_columns g c) (λ columns zipped. joined_fit c.args.walk.now.survivors.now.catalog (rows g c) c.args.borrowed.now columns.items (there g c columns.items zipped))

pub returns-clause-rows : goal.returns-clause-rows
returns-clause-rows g c = IfOk-then c.in_ok-collect.field-0 _ _ (made_columns g c) (λ columns zipped. joined_rows c.args.walk.now.survivors.now.catalog (rows g c) c.args.borrowed.now columns.items (there g c columns.items zipped))
