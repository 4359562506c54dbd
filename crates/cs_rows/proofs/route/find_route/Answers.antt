use Rattle.std.proofs.Common.{ap, sym, subst, ◌∙◌, ◌+◌, List, Vec, arith, Some, None}
use Rattle.std.specs.Global.{Global}
use Rattle.cs_rows.specs.Routes.{RouteStep, IsNextStep}
use Rattle.cs_rows.proofs.RouteLemmas.{IsRound, round_same, round_step}
use Rattle.cs_rows.proofs.route.find_route.Goals as goal
use Rattle.cs_rows.proofs.route.find_route.Goals.{in-Some+in_ok-push-in-Some, in-None}

abbrev items_of : Vec RouteStep Global → List RouteStep
items_of v = v.items

pub loop-q-preserved : goal.loop-q-preserved
loop-q-preserved c =
    let n = c.projection_count-count.ensures.count in
    elim c.match-next_step.branch [
      | in-Some+in_ok-push-in-Some w ↦
          subst (λ (l : List RouteStep). IsRound c.args.catalog.now c.args.plan.now l c.loop-round._round (c.loop-q.q + 1)) (sym (ap items_of w.route-is ∙ w.in_ok-push-in-Some.ensures.items))
          (round_step c.args.catalog.now c.args.plan.now c.requires c.loop-q.route.items c.loop-round._round c.loop-q.q (omega arith) c.loop-q.invariant w.in-Some.step
          (subst (λ (l : List RouteStep). IsNextStep c.args.plan.now l c.loop-q.q (Some w.in-Some.step)) c.as_slice.ensures.value w.in-Some.ensures))
      | in-None w ↦
          subst (λ (l : List RouteStep). IsRound c.args.catalog.now c.args.plan.now l c.loop-round._round (c.loop-q.q + 1)) (sym (ap items_of w.route-is))
          (round_same c.args.catalog.now c.args.plan.now c.requires c.loop-q.route.items c.loop-round._round c.loop-q.q (omega arith) c.loop-q.invariant
          (subst (λ (l : List RouteStep). IsNextStep c.args.plan.now l c.loop-q.q None) c.as_slice.ensures.value w.in-None.ensures))
    ]

pub returns : goal.returns
returns c = Rattle.cs_rows.proofs.RouteLemmas.round_end c.args.catalog.now c.args.plan.now c.loop-round.route.items c.loop-round._round c.requires (omega (Rattle.std.proofs.Common.arith, c.loop-round-test.false, c.projection_count-count.ensures.count)) c.loop-round.invariant
