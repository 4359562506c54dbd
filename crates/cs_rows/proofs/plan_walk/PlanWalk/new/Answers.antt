use Rattle.std.proofs.Common.{subst, sym}
use Rattle.cs_rows.specs.Steps.{PlanFits}
use Rattle.cs_rows.specs.Columns.{AreElsewhere, AreIndices}
use Rattle.cs_rows.specs.Routes.{IsRoute}
use Rattle.cs_rows.proofs.EndLemmas.{fits_of}
use Rattle.cs_rows.proofs.plan_walk.PlanWalk.new.Goals as goal

pub find_indices-requires : goal.find_indices-requires
find_indices-requires c = fits_of c.args.catalog.now c.args.plan.now c.requires.rules c.requires.plan

pub find_elsewhere-requires : goal.find_elsewhere-requires
find_elsewhere-requires c = fits_of c.args.catalog.now c.args.plan.now c.requires.rules c.requires.plan

pub find_route-requires : goal.find_route-requires
find_route-requires c = fits_of c.args.catalog.now c.args.plan.now c.requires.rules c.requires.plan

pub invariant_of-result : goal.invariant_of-result
invariant_of-result c =
    let P = c.args.plan.now in
    let own = sym c.requires.same in
    record {
      fits = subst (λ C. PlanFits C P) own (fits_of c.args.catalog.now P c.requires.rules c.requires.plan);
      indices_are = subst (λ C. AreIndices C P c.in_ok-indices.indices.items) own c.in_ok-indices.ensures;
      elsewhere_are = subst (λ C. AreElsewhere C P c.in_ok-elsewhere.elsewhere.items) own c.in_ok-elsewhere.ensures;
      route_is = subst (λ C. IsRoute C P c.in_ok-route.route.items) own c.in_ok-route.ensures;
    }
