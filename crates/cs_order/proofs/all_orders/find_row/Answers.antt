use Rattle.std.proofs.Common.{[], subst, ◌∙◌, arith, below_more}
use Rattle.std.specs.Prelude.{Contains}
use Rattle.cs_order.proofs.SortedNumbers.{any_default}
use Rattle.cs_order.proofs.all_orders.find_row.Goals as goal

pub loop-s-preserved : goal.loop-s-preserved
loop-s-preserved c =
    let read = c.rows.ensures ∙ c.index-segments-s.is ∙ any_default c.args.segments.now c.loop-s.s c.index-segments-s.result [] c.loop-s-test.true in
    below_more _ _ c.loop-s.invariant (subst (λ rows. Contains rows c.args.row → ⊥) read (c.index_of.ensures.none c.in_default.is))

pub unreachable-requires : goal.unreachable-requires
unreachable-requires c = c.requires.there (λ s lt. c.loop-s.invariant s (omega (arith, lt, c.loop-s-test.false)))
