use Rattle.std.specs.Prelude.{IsTrue}
use Rattle.std.specs.List.{AllAdjacentBelow}
use Rattle.cs_delta.specs.DeltaFile.{may_follow}
use Rattle.cs_delta.proofs.item_list.are_in_order.Given as goal

abbrev pub invariant-loop-i : goal.invariant-loop-i
invariant-loop-i l = AllAdjacentBelow (λ c e. IsTrue (may_follow c e)) l.layer l.i
