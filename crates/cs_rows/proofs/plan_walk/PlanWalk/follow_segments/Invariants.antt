use Rattle.std.proofs.Common.{◌≡◌, length, ◌≤◌, ◌*◌, ◌++◌, List, None}
use Rattle.std.specs.List.{find}
use Rattle.cs_rows.specs.Walk.{At, is_astray}
use Rattle.cs_rows.specs.Survivors.{contents_of}
use Rattle.cs_rows.specs.PlanWalks.{AreFollowed}
use Rattle.cs_rows.proofs.RangeLemmas.{done, part}
use Rattle.cs_rows.proofs.plan_walk.PlanWalk.follow_segments.Given as goal

abbrev pub invariant-loop-s : goal.invariant-loop-s
invariant-loop-s l = record {
  small : l.first ≤ l.s * 4294967296;
  count : length l.ids.items ≡ length l.fn.ids.items;
  first : l.first ≡ length (done (contents_of l.self.survivors.now) l.self.plan.now.anchor l.s);
  sound : find (is_astray l.self.survivors.now.catalog (contents_of l.self.survivors.now) l.self.plan.now) (part (contents_of l.self.survivors.now) l.self.plan.now.anchor l.from l.to l.s) ≡ None;
  followed : (ats : List At) → AreFollowed l.self ats l.fn.ids.items → AreFollowed l.self (ats ++ part (contents_of l.self.survivors.now) l.self.plan.now.anchor l.from l.to l.s) l.ids.items;
}
