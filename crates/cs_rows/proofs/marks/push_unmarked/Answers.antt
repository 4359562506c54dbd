use Rattle.std.proofs.Common.{◌+◌, ◌-◌, ◌++◌, pos, ap, ◌∙◌, arith, take, drop}
use Rattle.cs_schema.specs.declared.cells.Value.{Value}
use Rattle.cs_schema.specs.Values.{values, kind_of}
use Rattle.cs_rows.proofs.KeptCells.{run_goes_on, run_stops}
use Rattle.cs_rows.proofs.marks.push_unmarked.Goals as goal
use Rattle.cs_rows.proofs.marks.push_unmarked.Goals.{then-marks-at+in_ok-push_run, else-marks-at}

pub loop-at-preserved : goal.loop-at-preserved
loop-at-preserved c =
    let marks = c.args.marks.now in
    let old = values c.args.left.now in
    let left = values c.loop-at.left in
    let vs = values c.args.cells.now in
    let at = c.loop-at.at in
    let from = c.loop-at.from in
    let so_far = c.loop-at.invariant in
    elim c.if-marks-at.branch [
      | then-marks-at+in_ok-push_run w ↦ record {
        order = omega (arith, w.from-is);
        kind = ap kind_of w.left-is ∙ w.in_ok-push_run.ensures.kind ∙ so_far.kind;
        cells = (λ i. values (w.left-is i) ++ take (at + 1 - w.from-is i) (drop (w.from-is i) vs))
            ∙ ap (λ ws. ws ++ take (at + 1 - (at + 1)) (drop (at + 1) vs)) w.in_ok-push_run.ensures.cells
            ∙ run_stops marks vs old left from at (Value.Int (pos 0)) c.requires.marks c.loop-at-test.true w.if-marks-at.true so_far.cells;
      }
      | else-marks-at w ↦ record {
        order = omega (arith, w.from-is, so_far.order);
        kind = ap kind_of w.left-is ∙ so_far.kind;
        cells = (λ i. values (w.left-is i) ++ take (at + 1 - w.from-is i) (drop (w.from-is i) vs))
            ∙ run_goes_on marks vs old left from at (Value.Int (pos 0)) c.requires.marks c.loop-at-test.true so_far.order w.if-marks-at.false so_far.cells;
      }
    ]
