use Rattle.std.proofs.Common.{sym, ap, ◌∙◌, not, ℕ, List, length, arith, Vec, length-append, get_or, ◌∷◌, []}
use Rattle.std.specs.Global.{Global}
use Rattle.cs_rows.specs.declared.levels.JoinTarget.{JoinTarget}
use Rattle.cs_rows.specs.WalkByRows.{Reached}
use Rattle.cs_rows.proofs.LevelLemmas.{stray_among, entered_lost, entered_row}
use Rattle.cs_rows.proofs.levels.enter_all.Goals as goal
use Rattle.cs_rows.proofs.levels.enter_all.Goals.{in-Lost+in_ok-push-in-Lost, in-Row+in_ok-push-in-Row}

pub returns-in-Astray-clause-sound : goal.returns-in-Astray-clause-sound
returns-in-Astray-clause-sound c = sym (ap not (stray_among c.args.landings.now c.loop-q.q-index (0, JoinTarget.Astray) c.loop-q-test.true c.in-Astray.is))

abbrev rows_of : Vec Reached Global → List Reached
rows_of v = v.items

abbrev numbers_of : Vec ℕ Global → List ℕ
numbers_of v = v.items

pub loop-q-preserved : goal.loop-q-preserved
loop-q-preserved c =
    elim c.match-landed.branch [
      | in-Lost+in_ok-push-in-Lost w ↦
          let r = ap rows_of w.reached-is in (
            omega (arith, ap length r, c.loop-q.invariant.0),
            entered_lost c.args.reached.now.items c.args.marked.now.items c.loop-q.reached.items c.loop-q.marked.items c.args.landings.now c.loop-q.q-index (0, JoinTarget.Astray) c.loop-q-test.true c.loop-q.invariant.1 w.in-Lost.is c.match-landed.reached.items c.match-landed.marked.items
                r (ap numbers_of w.marked-is ∙ w.in_ok-push-in-Lost.ensures.items),
          )
      | in-Row+in_ok-push-in-Row w ↦
          let r = ap rows_of w.reached-is ∙ w.in_ok-push-in-Row.ensures.items in (
            omega (arith, ap length r, length-append c.loop-q.reached.items (((get_or c.args.landings.now c.loop-q.q-index (0, JoinTarget.Astray)).0, w.in-Row.at) ∷ []), c.loop-q.invariant.0),
            entered_row c.args.reached.now.items c.args.marked.now.items c.loop-q.reached.items c.loop-q.marked.items c.args.landings.now c.loop-q.q-index (0, JoinTarget.Astray) c.loop-q-test.true c.loop-q.invariant.1 w.in-Row.at w.in-Row.is c.match-landed.reached.items c.match-landed.marked.items
                r (ap numbers_of w.marked-is),
          )
    ]
