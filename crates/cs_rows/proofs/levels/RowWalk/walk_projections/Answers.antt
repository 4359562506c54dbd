use Rattle.std.proofs.Common.{◌≡◌, ◌+◌, ◌++◌, ℕ, List, None, length, drop, take, arith, ap, sym, subst, ◌∙◌}
use Rattle.std.specs.List.{find}
use Rattle.cs_rows.specs.Survivors.{contents_of}
use Rattle.cs_rows.specs.WalkByRows.{Reached}
use Rattle.cs_rows.specs.RangeByRows.{is_stray_row, surviving_between}
use Rattle.cs_rows.specs.RowSteps.{projection_kept, IsStrayFault}
use Rattle.cs_rows.proofs.PartLemmas.{part, here, part_more, part_split, first_more}
use Rattle.cs_rows.proofs.SurvivingRows.{surviving_are}
use Rattle.cs_rows.proofs.FoundRows.{Grows, none_stray, stray_in, grows_more}
use Rattle.cs_rows.proofs.levels.RowWalk.walk_projections.Goals as goal

pub returns-in-Err-clause-fault : goal.returns-in-Err-clause-fault
returns-in-Err-clause-fault c =
    let p : ℕ = c.loop-p.p in
    let f : ℕ → List Reached = projection_kept c.args.self.now.survivors.now.catalog c.args.self.now.loss (contents_of c.args.self.now.survivors.now) in
    let rows : drop c.saturating_sub.result (take c.saturating_sub-in-loop-p.result (f p)) ≡ here f c.args.range.0 c.args.range.1 c.loop-p.first p = λ i. drop (c.saturating_sub.ensures i) (take (c.saturating_sub-in-loop-p.ensures i) (f p)) in
    let within = c.projection_count-p-end.ensures.count in
    let d = part_split f c.args.range.0 c.args.range.1 c.loop-p.first p (length c.args.self.now.survivors.now.catalog.projections) (omega arith) c.loop-p.invariant.count in
    stray_in c.args.self.now.survivors.now.catalog c.args.self.now.loss (contents_of c.args.self.now.survivors.now) (part f c.args.range.0 c.args.range.1 p) (here f c.args.range.0 c.args.range.1 c.loop-p.first p) d.0 (surviving_between c.args.self.now.survivors.now.catalog c.args.self.now.loss (contents_of c.args.self.now.survivors.now) c.args.range.0 c.args.range.1) c.in-Err.fault
    (ap (λ (l : List Reached). drop c.args.range.0 (take c.args.range.1 l)) (surviving_are c.args.self.now.survivors.now.catalog c.args.self.now.loss (contents_of c.args.self.now.survivors.now)) ∙ d.1) c.loop-p.invariant.sound
    (subst (λ (l : List Reached). IsStrayFault c.args.self.now.survivors.now.catalog c.args.self.now.loss (contents_of c.args.self.now.survivors.now) l c.in-Err.fault) rows c.in-Err.ensures.fault)

pub loop-p-preserved : goal.loop-p-preserved
loop-p-preserved c =
    let p : ℕ = c.loop-p.p in
    let f : ℕ → List Reached = projection_kept c.args.self.now.survivors.now.catalog c.args.self.now.loss (contents_of c.args.self.now.survivors.now) in
    let now : List Reached = drop c.saturating_sub.result (take c.saturating_sub-in-loop-p.result (f p)) in
    let rows : now ≡ here f c.args.range.0 c.args.range.1 c.loop-p.first p = λ i. drop (c.saturating_sub.ensures i) (take (c.saturating_sub-in-loop-p.ensures i) (f p)) in
    let more = part_more f c.args.range.0 c.args.range.1 c.loop-p.first p c.loop-p.invariant.count ∙ ap (λ (l : List Reached). part f c.args.range.0 c.args.range.1 p ++ l) (sym rows) in
    record {
      few = omega arith;
      scratch = c.in-Ok.ensures.scratch;
      fit = c.in-Ok.ensures.fit;
      count = ap (λ (k : ℕ). c.loop-p.first + k) c.kept_in_projection-first.ensures.count ∙ first_more f c.loop-p.first p c.loop-p.invariant.count;
      sound = ap (find (is_stray_row c.args.self.now.survivors.now.catalog c.args.self.now.loss (contents_of c.args.self.now.survivors.now))) more
          ∙ none_stray c.args.self.now.survivors.now.catalog c.args.self.now.loss (contents_of c.args.self.now.survivors.now) (part f c.args.range.0 c.args.range.1 p) now c.loop-p.invariant.sound c.in-Ok.ensures.sound;
      grown = grows_more c.args.self.now.survivors.now.catalog c.args.self.now.loss (contents_of c.args.self.now.survivors.now) c.args.self.now.fresh_only (part f c.args.range.0 c.args.range.1 p) now (part f c.args.range.0 c.args.range.1 (p + 1)) c.args.columns.now.items c.loop-p.columns.items c.walk_projection.new.columns.items
          more c.loop-p.invariant.grown c.in-Ok.ensures.cells;
    }

pub returns-clause-sound : goal.returns-clause-sound
returns-clause-sound c =
    let within = c.projection_count-p-end.ensures.count in
    let e : c.loop-p.p ≡ length c.args.self.now.survivors.now.catalog.projections = omega arith in
    ap (λ (l : List Reached). find (is_stray_row c.args.self.now.survivors.now.catalog c.args.self.now.loss (contents_of c.args.self.now.survivors.now)) (drop c.args.range.0 (take c.args.range.1 l))) (surviving_are c.args.self.now.survivors.now.catalog c.args.self.now.loss (contents_of c.args.self.now.survivors.now))
    ∙ subst (λ (n : ℕ). find (is_stray_row c.args.self.now.survivors.now.catalog c.args.self.now.loss (contents_of c.args.self.now.survivors.now)) (part (projection_kept c.args.self.now.survivors.now.catalog c.args.self.now.loss (contents_of c.args.self.now.survivors.now)) c.args.range.0 c.args.range.1 n) ≡ None) e c.loop-p.invariant.sound

pub returns-clause-cells : goal.returns-clause-cells
returns-clause-cells c =
    let within = c.projection_count-p-end.ensures.count in
    let e : c.loop-p.p ≡ length c.args.self.now.survivors.now.catalog.projections = omega arith in
    let all = subst (λ (n : ℕ). Grows c.args.self.now.survivors.now.catalog c.args.self.now.loss (contents_of c.args.self.now.survivors.now) c.args.self.now.fresh_only (part (projection_kept c.args.self.now.survivors.now.catalog c.args.self.now.loss (contents_of c.args.self.now.survivors.now)) c.args.range.0 c.args.range.1 n) c.args.columns.now.items c.loop-p.columns.items) e c.loop-p.invariant.grown in
    subst (λ (l : List Reached). Grows c.args.self.now.survivors.now.catalog c.args.self.now.loss (contents_of c.args.self.now.survivors.now) c.args.self.now.fresh_only (drop c.args.range.0 (take c.args.range.1 l)) c.args.columns.now.items c.loop-p.columns.items) (sym (surviving_are c.args.self.now.survivors.now.catalog c.args.self.now.loss (contents_of c.args.self.now.survivors.now))) all
