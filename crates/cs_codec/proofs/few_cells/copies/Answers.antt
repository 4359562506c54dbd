use Rattle.std.proofs.Common.{arith, ◌≡◌, ◌-◌, ◌∙◌, sym, ap, take, drop, ◌++◌, ◌∷◌, []}
use Rattle.cs_codec.proofs.ColumnRanges.{range_more}
use Rattle.cs_codec.proofs.few_cells.copies.Goals as goal

pub loop-at-preserved : goal.loop-at-preserved
loop-at-preserved g c = rw c.in_ok-push.ensures.items (
    ap (λ z. z ++ c.cell.result ∷ []) c.loop-at.invariant
    ∙ sym (range_more (g.L.Column.cells c.args.column.now) c.args.from c.loop-at.at c.cell.result (omega arith) c.cell.ensures))

pub returns : goal.returns
returns g c =
    let end : c.loop-at.at ≡ c.args.to = omega (arith, c.requires.order, c.loop-at-test.false) in
    c.loop-at.invariant ∙ ap (λ k. take (k - c.args.from) (drop c.args.from (g.L.Column.cells c.args.column.now))) end
