use Rattle.std.proofs.Common.{◌≡◌, ◌≤◌, ◌*◌, length, None}
use Rattle.std.specs.List.{find}
use Rattle.cs_rows.specs.Survivors.{contents_of}
use Rattle.cs_rows.specs.Columns.{ColumnsFit}
use Rattle.cs_rows.specs.RangeByRows.{is_stray_row}
use Rattle.cs_rows.specs.RowSteps.{AreColumnSources, kept_rows}
use Rattle.cs_rows.proofs.FoundRows.{Grows}
use Rattle.cs_rows.proofs.PartLemmas.{done, part}
use Rattle.cs_rows.proofs.levels.RowWalk.walk_projection.Given as goal

abbrev pub invariant-loop-s : goal.invariant-loop-s
invariant-loop-s l = record {
  few : l.first ≤ l.s * 4294967296;
  scratch : AreColumnSources l.self.fresh_only l.self.survivors.now.catalog l.scratch.sources;
  fit : ColumnsFit l.self.survivors.now.catalog l.columns.items;
  count : l.first ≡ length (done (kept_rows l.self.survivors.now.catalog l.self.loss (contents_of l.self.survivors.now) l.p) l.s);
  sound : find (is_stray_row l.self.survivors.now.catalog l.self.loss (contents_of l.self.survivors.now)) (part (kept_rows l.self.survivors.now.catalog l.self.loss (contents_of l.self.survivors.now) l.p) l.fn.range.0 l.fn.range.1 l.s) ≡ None;
  grown : Grows l.self.survivors.now.catalog l.self.loss (contents_of l.self.survivors.now) l.self.fresh_only (part (kept_rows l.self.survivors.now.catalog l.self.loss (contents_of l.self.survivors.now) l.p) l.fn.range.0 l.fn.range.1 l.s) l.fn.columns.items l.columns.items;
}
