use Rattle.std.proofs.Common.{◌∙◌, arith}
use Rattle.std.proofs.lemmas.Result.{IfOk-weaker}
use Rattle.cs_board.proofs.collect.in_order.Goals as goal

pub filled-slots-requires-clause-below : goal.filled-slots-requires-clause-below
filled-slots-requires-clause-below g c = rw c.in_ok-empty_slots.ensures.len c.requires.below

pub filled-slots-requires-clause-empty : goal.filled-slots-requires-clause-empty
filled-slots-requires-clause-empty g c = c.in_ok-empty_slots.ensures.empty

pub taken-requires : goal.taken-requires
taken-requires g c = λ i below. c.filled-slots.ensures.filled i (c.requires.each i (omega (arith, c.filled-slots.ensures.len, c.in_ok-empty_slots.ensures.len)))

pub returns-clause-len : goal.returns-clause-len
returns-clause-len g c = IfOk-weaker c.taken.result _ _ (λ outs e. e ∙ c.filled-slots.ensures.len ∙ c.in_ok-empty_slots.ensures.len) c.taken.ensures.len

pub returns-clause-answers : goal.returns-clause-answers
returns-clause-answers g c = IfOk-weaker c.taken.result _ _ (λ outs each. λ i out at. c.filled-slots.ensures.answers i out (each i out at)) c.taken.ensures.each
