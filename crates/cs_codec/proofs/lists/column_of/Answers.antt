use Rattle.std.proofs.Common.{◌++◌, ◌∷◌, [], take, sym, ap, ◌∙◌, arith}
use Rattle.std.proofs.lemmas.List.{take_all, take_more}
use Rattle.cs_codec.proofs.lists.column_of.Goals as goal

pub loop-cell-preserved : goal.loop-cell-preserved
loop-cell-preserved g c =
    let xs = c.args.cells.now in
    let i = c.loop-cell.cell-index in
    rw c.in_ok-push.ensures.items
    (ap (λ z. z ++ c.copy.result ∷ []) c.loop-cell.invariant
    ∙ ap (λ x. take i xs ++ x ∷ []) (c.copy.ensures ∙ c.cell-item.is)
    ∙ sym (take_more xs i c.cell-item.result c.loop-cell-test.true))

pub returns : goal.returns
returns g c = c.loop-cell.invariant ∙ take_all c.loop-cell.cell-index c.args.cells.now (omega (arith, c.loop-cell-test.false))
