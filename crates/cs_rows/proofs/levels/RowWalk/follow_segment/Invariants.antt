use Rattle.std.proofs.Common.{◌≡◌, ◌≤◌, ◌-◌, None}
use Rattle.std.specs.List.{find}
use Rattle.cs_rows.specs.Survivors.{contents_of}
use Rattle.cs_rows.specs.RangeByRows.{is_stray_row}
use Rattle.cs_rows.specs.RowSteps.{reached_from}
use Rattle.cs_rows.proofs.levels.RowWalk.follow_segment.Given as goal

abbrev pub invariant-loop-i : goal.invariant-loop-i
invariant-loop-i l = record {
  start : l.fn.rows.0 ≤ l.i;
  sources : l.scratch.sources ≡ l.fn.scratch.sources;
  sound : find (is_stray_row l.self.survivors.now.catalog l.self.loss (contents_of l.self.survivors.now)) (reached_from l.fn.segment.0 l.fn.segment.1 l.fn.rows.0 (l.i - l.fn.rows.0)) ≡ None;
}
