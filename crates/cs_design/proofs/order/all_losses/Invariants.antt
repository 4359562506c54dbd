use Rattle.std.proofs.Common.{◌≡◌}
use Rattle.cs_design.proofs.TailLists.{losses_up_to}
use Rattle.cs_design.proofs.order.all_losses.Given as goal

abbrev pub invariant-loop-count : goal.invariant-loop-count
invariant-loop-count l = l.losses.items ≡ losses_up_to l.sites l.count
