use Rattle.std.proofs.Common.{arith, ◌-◌, ◌∙◌}
use Rattle.std.proofs.lemmas.List.{get_or_default}
use Rattle.cs_codec.proofs.BitmapLengths.{one_within, longer_by_set, run_merged}
use Rattle.cs_codec.proofs.bitmap.push_run.Goals as goal

pub overflow_add-index_mut : goal.overflow_add-index_mut
overflow_add-index_mut c =
    omega (arith, one_within c.args.lengths.now.items (c.len-len.result - 1) (omega arith), get_or_default c.args.lengths.now.items (c.len-len.result - 1) c.index_mut.result.now 0 (omega arith), c.index_mut.ensures.value)

pub returns-then-len-gt0-clause-ok : goal.returns-then-len-gt0-clause-ok
returns-then-len-gt0-clause-ok c =
    longer_by_set c.args.lengths.now.items (c.len-len.result - 1) c.index_mut.result.now c.args.ones (omega arith) (c.index_mut.ensures.value ∙ get_or_default c.args.lengths.now.items (c.len-len.result - 1) c.index_mut.result.now 0 (omega arith))
    ∙ run_merged c.args.lengths.now.items c.args.zeros c.args.ones (omega arith) (omega arith)
