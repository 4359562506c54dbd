use Rattle.std.proofs.Common.{◌≡◌, ◌++◌, ◌∷◌, [], arith, get_or, subst, sym, true}
use Rattle.std.proofs.Math.Logic.{∥∥₁_elim}
use Rattle.std.proofs.Props.{props}
use Rattle.cs_safety.specs.PlanData.{is_planned}
use Rattle.cs_rows.specs.Survivors.{contents_of}
use Rattle.cs_rows.specs.Columns.{AreReachedIn}
use Rattle.cs_rows.proofs.FollowLemmas.{reached_more}
use Rattle.cs_rows.proofs.plan_walk.PlanWalk.push_places.Goals as goal

pub returns-clause-ok : goal.returns-clause-ok
returns-clause-ok c = λ row reached ats before q h read.
    let C = c.args.self.now.survivors.now.catalog in
    let S = contents_of c.args.self.now.survivors.now in
    let P = c.args.self.now.plan.now in
    let planned = ∥∥₁_elim (c.args.self.now.elsewhere_are.only q h read) (hlevel props) (λ column. subst (λ p. is_planned P p ≡ true) column.2 (c.args.self.now.fits.planned column.0 column.1)) in
    let at = reached q h planned in
    let pushed = c.loop-q.invariant.pushed q (omega (arith, h, c.loop-q-test.false, c.loop-q.auto.q-end, c.len-q-end.ensures, c.requires.ids)) read in
    subst (AreReachedIn C S P q (ats ++ row ∷ [])) (sym pushed) (reached_more C S P q ats (get_or c.args.ids.now.items q []) row (get_or c.args.places.now q (0, 0)) (before q h read) at.0 at.1)
