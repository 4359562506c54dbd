use Rattle.std.proofs.Common.{◌≡◌, ◌≤◌, ◌*◌, length}
use Rattle.std.specs.List.{flat_map}
use Rattle.cs_schema.specs.Lists.{numbers_below}
use Rattle.cs_rows.specs.Survivors.{contents_of}
use Rattle.cs_rows.specs.RowSteps.{kept_rows}
use Rattle.cs_rows.proofs.counts.kept_in_projection.Given as goal

abbrev pub invariant-loop-s : goal.invariant-loop-s
invariant-loop-s l = (l.count ≡ length (flat_map (kept_rows l.survivors.catalog l.loss (contents_of l.survivors) l.p) (numbers_below l.s))) × (l.count ≤ l.s * 4294967296)
