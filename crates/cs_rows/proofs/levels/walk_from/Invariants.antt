use Rattle.std.proofs.Common.{◌≡◌, ◌-◌, length}
use Rattle.cs_rows.specs.Survivors.{contents_of}
use Rattle.cs_rows.specs.WalkByRows.{found, found_from}
use Rattle.cs_rows.specs.RowSteps.{AllStand}
use Rattle.cs_rows.proofs.levels.walk_from.Given as goal

abbrev pub invariant-loop-step : goal.invariant-loop-step
invariant-loop-step l = (found_from l.walk.survivors.now.catalog l.walk.loss (contents_of l.walk.survivors.now) l.fn.row.0 l.fn.row.1 ≡ found l.walk.survivors.now.catalog l.walk.loss (contents_of l.walk.survivors.now) (length l.walk.survivors.now.catalog.projections - l._step) l.reached_rows) × AllStand l.walk.survivors.now.catalog (contents_of l.walk.survivors.now) l.reached_rows
