use Rattle.std.proofs.Common.{◌≡◌, ◌≤◌, ◌-◌, ◌++◌, List, length, None}
use Rattle.std.specs.List.{find}
use Rattle.cs_rows.specs.Walk.{At, is_astray}
use Rattle.cs_rows.specs.Survivors.{contents_of}
use Rattle.cs_rows.specs.Columns.{rows_from}
use Rattle.cs_rows.specs.PlanWalks.{AreFollowed}
use Rattle.cs_rows.proofs.plan_walk.PlanWalk.follow_segment.Given as goal

abbrev pub invariant-loop-i : goal.invariant-loop-i
invariant-loop-i l = record {
  start : l.fn.rows.0 ≤ l.i;
  count : length l.ids.items ≡ length l.fn.ids.items;
  sound : find (is_astray l.self.survivors.now.catalog (contents_of l.self.survivors.now) l.self.plan.now) (rows_from l.s l.fn.rows.0 (l.i - l.fn.rows.0)) ≡ None;
  followed : (ats : List At) → AreFollowed l.self ats l.fn.ids.items → AreFollowed l.self (ats ++ rows_from l.s l.fn.rows.0 (l.i - l.fn.rows.0)) l.ids.items;
}
