use Rattle.std.proofs.Common.{◌≡◌, ◌<◌, ℕ, map, length, get_or, None}
use Rattle.std.specs.Prelude.{IfSome}
use Rattle.cs_rows.specs.Survivors.{contents_of}
use Rattle.cs_rows.specs.Walk.{projection_rows, walked_row}
use Rattle.cs_rebuild.specs.Walking.{IsColumnOf}
use Rattle.cs_rebuild.proofs.gathering.borrowed_columns.Given as goal

-- the columns borrowed so far have the cells of the anchor's rows
abbrev pub invariant-loop-c : goal.invariant-loop-c
invariant-loop-c l = record {
  count : length l.borrowed ≡ l.c;
  each : (k : ℕ) → k < l.c → IfSome (get_or l.borrowed k None) (IsColumnOf l.walk.survivors.now.catalog (map (walked_row l.walk.survivors.now.catalog (contents_of l.walk.survivors.now) l.walk.plan.now) (projection_rows l.walk.survivors.now.catalog (contents_of l.walk.survivors.now) l.walk.plan.now.anchor)) k);
}
