use Rattle.std.proofs.Common.{◌≡◌}
use Rattle.std.specs.List.{filter_map}
use Rattle.cs_schema.specs.Lists.{numbers_below}
use Rattle.cs_rows.specs.Survivors.{contents_of}
use Rattle.cs_rows.specs.WalkByRows.{looked_at}
use Rattle.cs_rows.specs.RowSteps.{landings_of, AllLandWell}
use Rattle.cs_rows.proofs.levels.ReachedRows.look_ahead.Given as goal

abbrev pub invariant-loop-q : goal.invariant-loop-q
invariant-loop-q l = (landings_of l.landings.items ≡ filter_map (looked_at l.walk.survivors.now.catalog l.walk.loss (contents_of l.walk.survivors.now) l.self) (numbers_below l.q)) × AllLandWell l.walk.survivors.now.catalog (contents_of l.walk.survivors.now) l.landings.items
