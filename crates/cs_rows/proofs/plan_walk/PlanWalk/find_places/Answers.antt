use Rattle.std.proofs.Common.{◌≡◌, ◌≤◌, ℕ, List, length, set, ap, sym, subst}
use Rattle.std.proofs.lemmas.List.{length-set}
use Rattle.cs_rows.specs.Walk.{At}
use Rattle.cs_rows.specs.Survivors.{contents_of}
use Rattle.cs_rows.proofs.RouteLemmas.{ArePlaced, placed_first, step_there, placed_more, astray_here, all_placed, not_astray}
use Rattle.cs_rows.proofs.plan_walk.PlanWalk.find_places.Goals as goal

pub loop-q-init : goal.loop-q-init
loop-q-init c =
    let e : set c.args.places.now c.anchor.result c.args.row ≡ set c.args.places.now c.args.self.now.plan.now.anchor c.args.row = ap (λ (n : ℕ). set c.args.places.now n c.args.row) c.anchor.ensures in (
      subst (λ (n : ℕ). length c.args.self.now.survivors.now.catalog.projections ≤ n) (sym (length-set c.args.places.now c.anchor.result c.args.row)) c.requires.places,
      subst (λ (l : List At). ArePlaced c.args.self.now.survivors.now.catalog (contents_of c.args.self.now.survivors.now) c.args.self.now.plan.now c.args.row c.args.route.now l 0) (sym e)
          (placed_first c.args.self.now.survivors.now.catalog (contents_of c.args.self.now.survivors.now) c.args.self.now.plan.now c.args.row c.args.self.now.fits c.requires.row c.args.route.now c.args.places.now c.requires.places),
    )

pub follow-requires-clause-row : goal.follow-requires-clause-row
follow-requires-clause-row c =
    step_there c.args.self.now.survivors.now.catalog (contents_of c.args.self.now.survivors.now) c.args.self.now.plan.now c.args.row c.args.self.now.fits c.requires.row c.args.route.now c.requires.route c.loop-q.places c.loop-q.invariant.0 c.loop-q.q-index (0, 0) c.loop-q-test.true c.loop-q.invariant.1

pub returns-in-None-clause-astray : goal.returns-in-None-clause-astray
returns-in-None-clause-astray c =
    sym (astray_here c.args.self.now.survivors.now.catalog (contents_of c.args.self.now.survivors.now) c.args.self.now.plan.now c.args.row c.args.self.now.fits c.requires.row c.args.route.now c.requires.route c.loop-q.places c.loop-q.invariant.0 c.loop-q.q-index (0, 0) c.loop-q-test.true c.loop-q.invariant.1 c.in-None.ensures.leads)

pub loop-q-preserved : goal.loop-q-preserved
loop-q-preserved c = (
  subst (λ (n : ℕ). length c.args.self.now.survivors.now.catalog.projections ≤ n) (sym (length-set c.loop-q.places _ c.in-Some.at)) c.loop-q.invariant.0,
  placed_more c.args.self.now.survivors.now.catalog (contents_of c.args.self.now.survivors.now) c.args.self.now.plan.now c.args.row c.args.self.now.fits c.requires.row c.args.route.now c.requires.route c.loop-q.places c.loop-q.invariant.0 c.loop-q.q-index (0, 0) c.loop-q-test.true c.loop-q.invariant.1 c.in-Some.at c.in-Some.ensures.leads c.in-Some.ensures.there,
)

pub returns-clause-astray : goal.returns-clause-astray
returns-clause-astray c =
    sym (not_astray c.args.self.now.survivors.now.catalog (contents_of c.args.self.now.survivors.now) c.args.self.now.plan.now c.args.row c.args.self.now.fits c.requires.row c.args.route.now c.requires.route c.loop-q.places c.loop-q.q-index c.loop-q-test.false c.loop-q.invariant.1)

pub returns-clause-places : goal.returns-clause-places
returns-clause-places c = λ _.
    all_placed c.args.self.now.survivors.now.catalog (contents_of c.args.self.now.survivors.now) c.args.self.now.plan.now c.args.row c.args.self.now.fits c.requires.row c.args.route.now c.requires.route c.loop-q.places c.loop-q.q-index c.loop-q-test.false c.loop-q.invariant.1
