use Rattle.std.proofs.Common.{◌≡◌, ◌≤◌, ◌*◌, length}
use Rattle.cs_rows.specs.Survivors.{contents_of}
use Rattle.cs_rows.specs.Walk.{segment_rows}
use Rattle.cs_rows.proofs.PartLemmas.{done}
use Rattle.cs_rows.proofs.counts.rows_in_projection.Given as goal

abbrev pub invariant-loop-s : goal.invariant-loop-s
invariant-loop-s l = (l.count ≡ length (done (segment_rows (contents_of l.survivors) l.p) l.s)) × (l.count ≤ l.s * 4294967296)
