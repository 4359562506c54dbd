use Rattle.std.proofs.Common.{ap, sym, subst, ◌∙◌, ℕ, List, Vec}
use Rattle.std.specs.Global.{Global}
use Rattle.std.proofs.lemmas.List.Elements.{All-push}
use Rattle.cs_rows.specs.declared.levels.JoinTarget.{JoinTarget}
use Rattle.cs_rows.specs.Survivors.{contents_of}
use Rattle.cs_rows.specs.RowSteps.{landings_of, LandsWell, AllLandWell}
use Rattle.cs_rows.proofs.LevelLemmas.{looked_more, looked_past}
use Rattle.cs_rows.proofs.levels.ReachedRows.look_ahead.Goals as goal
use Rattle.cs_rows.proofs.levels.ReachedRows.look_ahead.Goals.{in-Some+in_ok-push-in-Some, in-None}

abbrev items_of : Vec (ℕ × JoinTarget) Global → List (ℕ × JoinTarget)
items_of v = v.items

pub loop-q-preserved : goal.loop-q-preserved
loop-q-preserved c =
    elim c.match-look.branch [
      | in-Some+in_ok-push-in-Some w ↦
          let e = ap items_of w.landings-is ∙ w.in_ok-push-in-Some.ensures.items in (
            ap landings_of e ∙ looked_more c.args.walk.now.survivors.now.catalog c.args.walk.now.loss (contents_of c.args.walk.now.survivors.now) c.args.self.now c.loop-q.q c.loop-q.landings.items w.in-Some.landed c.loop-q.invariant.0 w.in-Some.ensures.looked,
            subst (AllLandWell c.args.walk.now.survivors.now.catalog (contents_of c.args.walk.now.survivors.now)) (sym e) (All-push (λ (x : ℕ × JoinTarget). LandsWell c.args.walk.now.survivors.now.catalog (contents_of c.args.walk.now.survivors.now) x.0 x.1) c.loop-q.landings.items (c.loop-q.q, w.in-Some.landed) c.loop-q.invariant.1 w.in-Some.ensures.there),
          )
      | in-None w ↦
          let e = ap items_of w.landings-is in (
            ap landings_of e ∙ looked_past c.args.walk.now.survivors.now.catalog c.args.walk.now.loss (contents_of c.args.walk.now.survivors.now) c.args.self.now c.loop-q.q c.loop-q.landings.items c.loop-q.invariant.0 w.in-None.ensures.looked,
            subst (AllLandWell c.args.walk.now.survivors.now.catalog (contents_of c.args.walk.now.survivors.now)) (sym e) c.loop-q.invariant.1,
          )
    ]
