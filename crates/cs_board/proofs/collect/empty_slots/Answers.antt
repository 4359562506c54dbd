use Rattle.std.proofs.Common.{◌≡◌, None, refl, arith}
use Rattle.std.proofs.lemmas.List.Elements.{All-push}
use Rattle.cs_board.proofs.collect.empty_slots.Goals as goal

pub loop-slot-preserved : goal.loop-slot-preserved
loop-slot-preserved g c =
    let pushed = c.in_ok-push.ensures in
    let longer = pushed.len in
    let len = c.loop-slot.invariant.len in
    record {
      len = omega arith;
      empty = rw pushed.items (All-push (λ slot. slot ≡ None) c.loop-slot.slots.items None c.loop-slot.invariant.empty refl);
    }

pub returns-clause-len : goal.returns-clause-len
returns-clause-len g c = let len = c.loop-slot.invariant.len in omega arith

pub returns-clause-empty : goal.returns-clause-empty
returns-clause-empty g c = c.loop-slot.invariant.empty
