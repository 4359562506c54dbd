use Rattle.std.proofs.Common.{◌≡◌, ◌-◌, ◌+◌, ◌++◌, ◌∷◌, [], ℕ, List, subst, arith, sym, ap, ◌∙◌, cond, Bool, Some, None}
use Rattle.std.specs.List.{find}
use Rattle.cs_rows.specs.Walk.{At, is_astray}
use Rattle.cs_rows.specs.Survivors.{contents_of}
use Rattle.cs_rows.specs.Columns.{rows_from}
use Rattle.cs_rows.specs.PlanWalks.{AreFollowed}
use Rattle.cs_rows.specs.declared.fault.WalkFault.{WalkFault}
use Rattle.cs_rows.proofs.RangeLemmas.{rows_more, rows_around, found_none, fault_in, extended_twice}
use Rattle.cs_rows.proofs.plan_walk.PlanWalk.follow_segment.Goals as goal

pub loop-i-preserved : goal.loop-i-preserved
loop-i-preserved c =
    let C = c.args.self.now.survivors.now.catalog in
    let S = contents_of c.args.self.now.survivors.now in
    let P = c.args.self.now.plan.now in
    let start = c.args.rows.0 in
    let at : At = (c.args.s, c.loop-i.i) in
    let here : find (is_astray C S P) (at ∷ []) ≡ None = ap (λ (b : Bool). cond b (Some at) None) (sym c.find_places.ensures.astray ∙ c.if-find_places.false) in
    record {
      start = omega arith;
      count = c.in_ok-push_places.ensures.ids ∙ c.loop-i.invariant.count;
      sound = ap (find (is_astray C S P)) (rows_more c.args.s start c.loop-i.i c.loop-i.invariant.start) ∙ found_none C S P (rows_from c.args.s start (c.loop-i.i - start)) (at ∷ []) c.loop-i.invariant.sound here;
      followed = extended_twice (λ (ats : List At) (ids : List (List At)). AreFollowed c.args.self.now ats ids) (rows_from c.args.s start (c.loop-i.i - start)) (at ∷ []) (rows_from c.args.s start (c.loop-i.i + 1 - start)) c.args.ids.now.items c.loop-i.ids.items c.push_places.new.ids.items (rows_more c.args.s start c.loop-i.i c.loop-i.invariant.start) c.loop-i.invariant.followed (c.in_ok-push_places.ensures.ok at (c.find_places.ensures.places c.if-find_places.false));
    }

pub returns-then-find_places-clause-fault : goal.returns-then-find_places-clause-fault
returns-then-find_places-clause-fault c =
    let C = c.args.self.now.survivors.now.catalog in
    let S = contents_of c.args.self.now.survivors.now in
    let P = c.args.self.now.plan.now in
    let start = c.args.rows.0 in
    let at : At = (c.args.s, c.loop-i.i) in
    let here : find (is_astray C S P) (at ∷ []) ≡ Some at = ap (λ (b : Bool). cond b (Some at) None) (sym c.find_places.ensures.astray ∙ c.if-find_places.true) in
    fault_in C S P (rows_from c.args.s start (c.loop-i.i - start)) (at ∷ []) (rows_from c.args.s (c.loop-i.i + 1) (c.args.rows.1 - (c.loop-i.i + 1))) (rows_from c.args.s start (c.args.rows.1 - start)) (WalkFault.Astray c.anchor.result c.args.s c.loop-i.i)
    (rows_around c.args.s start c.loop-i.i c.args.rows.1 c.loop-i.invariant.start c.loop-i-test.true) c.loop-i.invariant.sound (c.anchor.ensures, here)

pub returns-clause-followed : goal.returns-clause-followed
returns-clause-followed c =
    let all : c.loop-i.i ≡ c.args.rows.1 = omega (arith, c.requires.order, c.loop-i-test.false, c.loop-i.auto.i-end) in
    subst (λ (n : ℕ). (ats : List At) → AreFollowed c.args.self.now ats c.args.ids.now.items → AreFollowed c.args.self.now (ats ++ rows_from c.args.s c.args.rows.0 (n - c.args.rows.0)) c.loop-i.ids.items) all c.loop-i.invariant.followed
