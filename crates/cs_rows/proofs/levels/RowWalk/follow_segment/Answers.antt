use Rattle.std.proofs.Common.{◌+◌, ◌-◌, ◌∷◌, [], ℕ, arith, ap, ◌∙◌}
use Rattle.std.specs.List.{find}
use Rattle.cs_rows.specs.Survivors.{contents_of}
use Rattle.cs_rows.specs.RangeByRows.{is_stray_row}
use Rattle.cs_rows.specs.RowSteps.{reached_from, row_at}
use Rattle.cs_rows.proofs.PartLemmas.{run_more, run_split}
use Rattle.cs_rows.proofs.FoundRows.{none_stray, stray_in}
use Rattle.cs_rows.proofs.levels.RowWalk.follow_segment.Goals as goal

pub returns-in-Err-clause-fault : goal.returns-in-Err-clause-fault
returns-in-Err-clause-fault c =
    let p : ℕ = c.args.segment.0 in
    let s : ℕ = c.args.segment.1 in
    stray_in c.args.self.now.survivors.now.catalog c.args.self.now.loss (contents_of c.args.self.now.survivors.now) (reached_from p s c.args.rows.0 (c.loop-i.i - c.args.rows.0)) (row_at p s c.loop-i.i ∷ []) (reached_from p s (c.loop-i.i + 1) (c.args.rows.1 - (c.loop-i.i + 1))) (reached_from p s c.args.rows.0 (c.args.rows.1 - c.args.rows.0)) c.in-Err.fault
    (run_split (row_at p s) c.args.rows.0 c.loop-i.i c.args.rows.1 c.loop-i.invariant.start c.loop-i-test.true) c.loop-i.invariant.sound c.in-Err.ensures.fault

pub loop-i-preserved : goal.loop-i-preserved
loop-i-preserved c =
    let p : ℕ = c.args.segment.0 in
    let s : ℕ = c.args.segment.1 in
    record {
      start = omega arith;
      sources = c.follow_row.ensures.sources ∙ c.loop-i.invariant.sources;
      sound = ap (find (is_stray_row c.args.self.now.survivors.now.catalog c.args.self.now.loss (contents_of c.args.self.now.survivors.now))) (run_more (row_at p s) c.args.rows.0 c.loop-i.i c.loop-i.invariant.start)
          ∙ none_stray c.args.self.now.survivors.now.catalog c.args.self.now.loss (contents_of c.args.self.now.survivors.now) (reached_from p s c.args.rows.0 (c.loop-i.i - c.args.rows.0)) (row_at p s c.loop-i.i ∷ []) c.loop-i.invariant.sound c.in-Ok.ensures.sound;
    }
