use Rattle.std.proofs.Common.{◌≤◌, length}
use Rattle.cs_rows.specs.Survivors.{contents_of}
use Rattle.cs_rows.proofs.RouteLemmas.{ArePlaced}
use Rattle.cs_rows.proofs.plan_walk.PlanWalk.find_places.Given as goal

abbrev pub invariant-loop-q : goal.invariant-loop-q
invariant-loop-q l = (length l.self.survivors.now.catalog.projections ≤ length l.places) × ArePlaced l.self.survivors.now.catalog (contents_of l.self.survivors.now) l.self.plan.now l.fn.row l.route l.places l.q-index
