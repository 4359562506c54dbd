use Rattle.std.proofs.Common.{sym, ◌∙◌, arith}
use Rattle.std.proofs.lemmas.Bool.{false≢true}
use Rattle.cs_delta.specs.ItemView.{change_of}
use Rattle.cs_delta.proofs.KeyLists.{out_of_order, order_more}
use Rattle.cs_delta.proofs.item_list.are_in_order.Goals as goal

pub returns-then-not-follows : goal.returns-then-not-follows
returns-then-not-follows c = (
  λ t. absurd (false≢true t),
  λ h. absurd (out_of_order c.args.layer.now c.loop-i.i (change_of c.item.result) (change_of c.item-in-loop-i.result) (omega arith) c.item.ensures c.item-in-loop-i.ensures (sym c.follows.ensures ∙ c.if-not-follows.true) h),
)

pub loop-i-preserved : goal.loop-i-preserved
loop-i-preserved c =
    order_more c.args.layer.now c.loop-i.i (change_of c.item.result) (change_of c.item-in-loop-i.result) (omega arith) c.item.ensures c.item-in-loop-i.ensures (sym c.follows.ensures ∙ c.if-not-follows.false) c.loop-i.invariant
