use Rattle.std.proofs.Common.{◌≡◌, ◌+◌, ◌-◌, ◌∷◌, [], ℕ, arith, ap, subst, ◌∙◌}
use Rattle.std.specs.List.{find}
use Rattle.cs_rows.specs.Survivors.{contents_of}
use Rattle.cs_rows.specs.RangeByRows.{is_stray_row}
use Rattle.cs_rows.specs.RowSteps.{reached_from, row_at}
use Rattle.cs_rows.proofs.PartLemmas.{run_more, run_split}
use Rattle.cs_rows.proofs.FoundRows.{Grows, none_stray, stray_in, grows_more}
use Rattle.cs_rows.proofs.levels.RowWalk.walk_segment.Goals as goal

pub returns-in-Err-clause-fault : goal.returns-in-Err-clause-fault
returns-in-Err-clause-fault c =
    let p : ℕ = c.args.segment.0 in
    let s : ℕ = c.args.segment.1 in
    stray_in c.args.self.now.survivors.now.catalog c.args.self.now.loss (contents_of c.args.self.now.survivors.now) (reached_from p s c.args.rows.0 (c.loop-i.i - c.args.rows.0)) (row_at p s c.loop-i.i ∷ []) (reached_from p s (c.loop-i.i + 1) (c.args.rows.1 - (c.loop-i.i + 1))) (reached_from p s c.args.rows.0 (c.args.rows.1 - c.args.rows.0)) c.in-Err.fault
    (run_split (row_at p s) c.args.rows.0 c.loop-i.i c.args.rows.1 c.loop-i.invariant.start c.loop-i-test.true) c.loop-i.invariant.sound c.in-Err.ensures.fault

pub loop-i-preserved : goal.loop-i-preserved
loop-i-preserved c =
    let p : ℕ = c.args.segment.0 in
    let s : ℕ = c.args.segment.1 in
    let more = run_more (row_at p s) c.args.rows.0 c.loop-i.i c.loop-i.invariant.start in
    record {
      start = omega arith;
      scratch = c.in-Ok.ensures.scratch;
      fit = c.in-Ok.ensures.fit;
      sound = ap (find (is_stray_row c.args.self.now.survivors.now.catalog c.args.self.now.loss (contents_of c.args.self.now.survivors.now))) more
          ∙ none_stray c.args.self.now.survivors.now.catalog c.args.self.now.loss (contents_of c.args.self.now.survivors.now) (reached_from p s c.args.rows.0 (c.loop-i.i - c.args.rows.0)) (row_at p s c.loop-i.i ∷ []) c.loop-i.invariant.sound c.in-Ok.ensures.sound;
      grown = grows_more c.args.self.now.survivors.now.catalog c.args.self.now.loss (contents_of c.args.self.now.survivors.now) c.args.self.now.fresh_only (reached_from p s c.args.rows.0 (c.loop-i.i - c.args.rows.0)) (row_at p s c.loop-i.i ∷ []) (reached_from p s c.args.rows.0 (c.loop-i.i + 1 - c.args.rows.0)) c.args.columns.now.items c.loop-i.columns.items c.walk_row.new.columns.items
          more c.loop-i.invariant.grown c.in-Ok.ensures.cells;
    }

pub returns-clause-cells : goal.returns-clause-cells
returns-clause-cells c =
    let e : c.loop-i.i ≡ c.args.rows.1 = omega arith in
    subst (λ (n : ℕ). Grows c.args.self.now.survivors.now.catalog c.args.self.now.loss (contents_of c.args.self.now.survivors.now) c.args.self.now.fresh_only (reached_from c.args.segment.0 c.args.segment.1 c.args.rows.0 (n - c.args.rows.0)) c.args.columns.now.items c.loop-i.columns.items) e c.loop-i.invariant.grown
