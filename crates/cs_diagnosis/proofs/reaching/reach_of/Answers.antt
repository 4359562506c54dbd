use Rattle.std.proofs.Common.{◌≡◌, ℕ, ◌≤◌, length, sym, ap, subst, arith}
use Rattle.cs_diagnosis.specs.Reach.{IsReach}
use Rattle.cs_diagnosis.proofs.Corrected.{few_sites, reached, unreached}
use Rattle.cs_diagnosis.proofs.reaching.reach_of.Goals as goal

pub returns-in-Some : goal.returns-in-Some
returns-in-Some c =
    let C = c.args.catalog.now in
    subst (λ e. IsReach C e c.args.asked (record { at_most = c.tried-at_most.result; certain = c.certain_by.result })) c.count-count.ensures.count
    (reached C c.count-count.result c.args.asked c.tried-at_most.result c.tried-at_most.ensures.few c.tried-at_most.ensures.asked_for c.in-Some.most c.certain_by.result c.in-Some.ensures.greatest c.tried-at_most.ensures.far c.tried-at_most.ensures.near c.certain_by.ensures)

pub tried-requires-clause-sites : goal.tried-requires-clause-sites
tried-requires-clause-sites c =
    let few = few_sites c.args.catalog.now c.projection_count-rules.ensures.rules c.args.forced c.requires.forced in
    omega (arith, few, c.count-count.ensures.count)

pub returns-in-None : goal.returns-in-None
returns-in-None c =
    let C = c.args.catalog.now in
    subst (λ e. IsReach C e c.args.asked (record { at_most = c.tried.result; certain = Rattle.std.proofs.Common.None })) c.count-count.ensures.count
    (unreached C c.count-count.result c.args.asked c.tried.result c.tried.ensures.few c.tried.ensures.asked_for c.in-None.ensures.greatest c.tried.ensures.far c.tried.ensures.near)
