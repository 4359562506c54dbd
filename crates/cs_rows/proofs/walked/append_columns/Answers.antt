use Rattle.std.proofs.Common.{◌≡◌, ◌+◌, arith, length, ◌∙◌}
use Rattle.std.proofs.Math.ListN.{length-set}
use Rattle.cs_rows.proofs.AppendLemmas.{rolled_back}
use Rattle.cs_rows.proofs.walked.append_columns.Goals as goal

pub returns-in-Err-clause-err : goal.returns-in-Err-clause-err
returns-in-Err-clause-err c k d h =
    let m : c.len-at.result + 1 ≡ length c.loop-cells.others.items = omega (arith, c.in-Some.ensures.len) in
    c.truncate_columns.ensures.cells k d (omega (arith, length-set c.loop-cells.columns.items c.len-at.result c.append.new.self))
    ∙ rolled_back c.args.columns.now.items c.loop-cells.columns.items c.args.others.items c.len-at.result c.args.rows c.append.new.self c.index_mut.result.now c.requires.long c.loop-cells.invariant.1
    (λ i e l. c.loop-cells.invariant.5 i e (omega arith)) (λ i e l b. c.loop-cells.invariant.4 i e l (omega arith)) c.in-Err.ensures.err c.index_mut.ensures.value (omega arith) k d h
