use Rattle.std.proofs.Common.{◌≡◌, ◌≤◌, ◌*◌, length, None}
use Rattle.std.specs.List.{find}
use Rattle.cs_rows.specs.Survivors.{contents_of}
use Rattle.cs_rows.specs.Columns.{ColumnsFit}
use Rattle.cs_rows.specs.RangeByRows.{is_stray_row}
use Rattle.cs_rows.specs.RowSteps.{AreColumnSources, projection_kept}
use Rattle.cs_rows.proofs.FoundRows.{Grows}
use Rattle.cs_rows.proofs.PartLemmas.{done, part}
use Rattle.cs_rows.proofs.levels.RowWalk.walk_projections.Given as goal

abbrev pub invariant-loop-p : goal.invariant-loop-p
invariant-loop-p l = record {
  few : l.first ≤ l.p * 68719476736;
  scratch : AreColumnSources l.self.fresh_only l.self.survivors.now.catalog l.scratch.sources;
  fit : ColumnsFit l.self.survivors.now.catalog l.columns.items;
  count : l.first ≡ length (done (projection_kept l.self.survivors.now.catalog l.self.loss (contents_of l.self.survivors.now)) l.p);
  sound : find (is_stray_row l.self.survivors.now.catalog l.self.loss (contents_of l.self.survivors.now)) (part (projection_kept l.self.survivors.now.catalog l.self.loss (contents_of l.self.survivors.now)) l.fn.range.0 l.fn.range.1 l.p) ≡ None;
  grown : Grows l.self.survivors.now.catalog l.self.loss (contents_of l.self.survivors.now) l.self.fresh_only (part (projection_kept l.self.survivors.now.catalog l.self.loss (contents_of l.self.survivors.now)) l.fn.range.0 l.fn.range.1 l.p) l.fn.columns.items l.columns.items;
}
