use Rattle.std.proofs.Common.{◌≡◌, ◌≤◌, ◌-◌, None}
use Rattle.std.specs.List.{find}
use Rattle.cs_rows.specs.Survivors.{contents_of}
use Rattle.cs_rows.specs.Columns.{ColumnsFit}
use Rattle.cs_rows.specs.RangeByRows.{is_stray_row}
use Rattle.cs_rows.specs.RowSteps.{AreColumnSources, reached_from}
use Rattle.cs_rows.proofs.FoundRows.{Grows}
use Rattle.cs_rows.proofs.levels.RowWalk.walk_segment.Given as goal

abbrev pub invariant-loop-i : goal.invariant-loop-i
invariant-loop-i l = record {
  start : l.fn.rows.0 ≤ l.i;
  scratch : AreColumnSources l.self.fresh_only l.self.survivors.now.catalog l.scratch.sources;
  fit : ColumnsFit l.self.survivors.now.catalog l.columns.items;
  sound : find (is_stray_row l.self.survivors.now.catalog l.self.loss (contents_of l.self.survivors.now)) (reached_from l.fn.segment.0 l.fn.segment.1 l.fn.rows.0 (l.i - l.fn.rows.0)) ≡ None;
  grown : Grows l.self.survivors.now.catalog l.self.loss (contents_of l.self.survivors.now) l.self.fresh_only (reached_from l.fn.segment.0 l.fn.segment.1 l.fn.rows.0 (l.i - l.fn.rows.0)) l.fn.columns.items l.columns.items;
}
