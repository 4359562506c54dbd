use Rattle.std.proofs.Common.{arith, refl}
use Rattle.cs_schema.proofs.Ascending.{false≢true}
use Rattle.cs_safety.proofs.RowSetLemmas.{safe_by_sets, unsafe_by_set}
use Rattle.cs_safety.proofs.row_sets.is_safe_by_rows.Goals as goal

pub returns-in-None : goal.returns-in-None
returns-in-None c =
    (λ h. false≢true h, λ safe. absurd (unsafe_by_set c.args.catalog.now c.all_left-sets.ensures.rules c.args.graph.now c.requires c.args.loss c.all_left-sets.result c.all_left-sets.ensures.left c.loop-s.s c.loop-s-test.true c.if-sets-s.true c.in-None.ensures safe))

pub returns : goal.returns
returns c =
    let done = c.loop-s-test.false in
    (λ h. safe_by_sets c.args.catalog.now c.all_left-sets.ensures.rules c.args.graph.now c.requires c.args.loss c.all_left-sets.result c.all_left-sets.ensures.left (λ s l e. c.loop-s.invariant s (omega (arith, l, done)) e), λ s. refl)
