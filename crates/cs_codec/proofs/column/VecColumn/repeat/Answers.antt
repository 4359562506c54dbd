use Rattle.std.proofs.Common.{◌++◌, ◌∷◌, [], replicate, ap, ◌∙◌, append_assoc}
use Rattle.std.proofs.lemmas.List.{replicate_more}
use Rattle.cs_codec.proofs.column.VecColumn.repeat.Goals as goal

pub loop-preserved : goal.loop-preserved
loop-preserved g c =
    let before = c.args.self.now.items in
    let cell = c.args.cell.now in
    c.in_ok-push.ensures.items
    ∙ ap (λ z. c.loop.self.items ++ z ∷ []) c.copy.ensures
    ∙ ap (λ z. z ++ cell ∷ []) c.loop.invariant
    ∙ append_assoc before (replicate c.loop.counter cell) (cell ∷ [])
    ∙ ap (λ z. before ++ z) (replicate_more c.loop.counter cell)
