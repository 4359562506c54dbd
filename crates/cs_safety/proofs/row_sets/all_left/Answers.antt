use Rattle.cs_safety.proofs.RowSetLemmas.{first_left}
use Rattle.cs_safety.proofs.row_sets.all_left.Goals as goal

pub loop-column-init : goal.loop-column-init
loop-column-init c = first_left c.args.catalog.now c.args.loss c.empty_set-sets.result c.empty_set-sets.ensures.size c.empty_set-sets.ensures.has c.empty_set-sets.ensures.only
