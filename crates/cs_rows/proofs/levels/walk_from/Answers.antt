use Rattle.std.proofs.Common.{◌≡◌, ◌+◌, ◌-◌, ap, sym, subst, ◌∙◌, length, arith, List, ℕ, true, false}
use Rattle.std.specs.List.{list_any}
use Rattle.cs_rows.specs.declared.levels.JoinTarget.{JoinTarget}
use Rattle.cs_rows.specs.Survivors.{contents_of}
use Rattle.cs_rows.specs.WalkByRows.{found_from, level, with_level, is_stray_landing}
use Rattle.cs_rows.specs.RowSteps.{landings_of, AllStand}
use Rattle.cs_rows.proofs.LevelLemmas.{found_ended, found_more, found_astray, level_stands, not_false, not_true}
use Rattle.cs_rows.proofs.levels.walk_from.Goals as goal

pub returns-then-is_ended-clause-found : goal.returns-then-is_ended-clause-found
returns-then-is_ended-clause-found c =
    found_ended c.args.walk.now.survivors.now.catalog c.args.walk.now.loss (contents_of c.args.walk.now.survivors.now) (length c.args.walk.now.survivors.now.catalog.projections - c.loop-step._step) c.loop-step.reached_rows
    (found_from c.args.walk.now.survivors.now.catalog c.args.walk.now.loss (contents_of c.args.walk.now.survivors.now) c.args.row.0 c.args.row.1) (c.is_ended.ensures.0 c.if-is_ended.true) c.loop-step.invariant.0

pub returns-then-not-branch-clause-found : goal.returns-then-not-branch-clause-found
returns-then-not-branch-clause-found c =
    let n = c.projection_count-step-end.ensures.count in
    let seen : landings_of c.as_slice.result.now ≡ level c.args.walk.now.survivors.now.catalog c.args.walk.now.loss (contents_of c.args.walk.now.survivors.now) c.loop-step.reached_rows = ap landings_of c.as_slice.ensures.value ∙ c.in_ok-look_ahead.ensures.level in
    let stray : list_any is_stray_landing (level c.args.walk.now.survivors.now.catalog c.args.walk.now.loss (contents_of c.args.walk.now.survivors.now) c.loop-step.reached_rows) ≡ true =
    ap (list_any is_stray_landing) (sym seen) ∙ not_false (list_any is_stray_landing (landings_of c.as_slice.result.now)) (sym c.in_ok-enter.ensures.sound ∙ c.if-not-branch.true) in
    c.loop-step.invariant.0
    ∙ found_astray c.args.walk.now.survivors.now.catalog c.args.walk.now.loss (contents_of c.args.walk.now.survivors.now) (length c.args.walk.now.survivors.now.catalog.projections - c.loop-step._step) (length c.args.walk.now.survivors.now.catalog.projections - (c.loop-step._step + 1)) c.loop-step.reached_rows (omega arith) stray

pub loop-step-preserved : goal.loop-step-preserved
loop-step-preserved c =
    let n = c.projection_count-step-end.ensures.count in
    let seen : landings_of c.as_slice.result.now ≡ level c.args.walk.now.survivors.now.catalog c.args.walk.now.loss (contents_of c.args.walk.now.survivors.now) c.loop-step.reached_rows = ap landings_of c.as_slice.ensures.value ∙ c.in_ok-look_ahead.ensures.level in
    let sound : list_any is_stray_landing (level c.args.walk.now.survivors.now.catalog c.args.walk.now.loss (contents_of c.args.walk.now.survivors.now) c.loop-step.reached_rows) ≡ false =
    ap (list_any is_stray_landing) (sym seen) ∙ not_true (list_any is_stray_landing (landings_of c.as_slice.result.now)) (sym c.in_ok-enter.ensures.sound ∙ c.if-not-branch.false) in
    let entered : c.enter.new.self ≡ with_level c.loop-step.reached_rows (landings_of c.as_slice.result.now) = c.in_ok-enter.ensures.entered c.if-not-branch.false in
    let items : c.as_slice.result.now ≡ c.look_ahead.new.landings.items = c.as_slice.ensures.value in (
      c.loop-step.invariant.0
          ∙ found_more c.args.walk.now.survivors.now.catalog c.args.walk.now.loss (contents_of c.args.walk.now.survivors.now) (length c.args.walk.now.survivors.now.catalog.projections - c.loop-step._step) (length c.args.walk.now.survivors.now.catalog.projections - (c.loop-step._step + 1)) c.loop-step.reached_rows c.enter.new.self (omega arith) sound (entered ∙ ap (with_level c.loop-step.reached_rows) seen),
      subst (AllStand c.args.walk.now.survivors.now.catalog (contents_of c.args.walk.now.survivors.now)) (sym (entered ∙ ap (λ (l : List (ℕ × JoinTarget)). with_level c.loop-step.reached_rows (landings_of l)) items)) (level_stands c.args.walk.now.survivors.now.catalog (contents_of c.args.walk.now.survivors.now) c.loop-step.reached_rows c.look_ahead.new.landings.items c.loop-step.invariant.1 c.in_ok-look_ahead.ensures.there),
    )
