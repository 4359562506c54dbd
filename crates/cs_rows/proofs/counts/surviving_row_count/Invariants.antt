use Rattle.std.proofs.Common.{◌≡◌, ◌≤◌, ◌*◌, length}
use Rattle.cs_rows.specs.Survivors.{contents_of}
use Rattle.cs_rows.specs.RowSteps.{projection_kept}
use Rattle.cs_rows.proofs.PartLemmas.{done}
use Rattle.cs_rows.proofs.counts.surviving_row_count.Given as goal

abbrev pub invariant-loop-p : goal.invariant-loop-p
invariant-loop-p l = (l.count ≡ length (done (projection_kept l.survivors.catalog l.loss (contents_of l.survivors)) l.p)) × (l.count ≤ l.p * 68719476736)
