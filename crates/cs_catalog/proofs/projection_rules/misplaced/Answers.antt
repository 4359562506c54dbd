use Rattle.std.proofs.Common.{sym, ◌∙◌, arith, ◌≤◌, min, length}
use Rattle.cs_catalog.proofs.TextLists.{all_may-past}
use Rattle.cs_catalog.proofs.projection_rules.misplaced.Goals as goal

pub returns : goal.returns
returns c =
    let far : min (length c.args.names.now) (length c.args.codes.now) ≤ c.loop-i.i = omega (arith, c.min-shared.ensures) in
    sym (c.loop-i.invariant ∙ all_may-past c.args.columns.now c.args.first.now c.args.names.now c.args.codes.now c.loop-i.i far)
