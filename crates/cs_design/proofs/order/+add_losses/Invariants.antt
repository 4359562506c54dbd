use Rattle.std.proofs.Common.{◌≡◌, ◌-◌, ◌++◌, map}
use Rattle.std.specs.List.{flat_map, range_with_len}
use Rattle.cs_design.proofs.TailLists.{tails_with}
use Rattle.cs_design.proofs.order.+add_losses.Given as goal

abbrev pub decreases-add_losses : goal.decreases-add_losses
decreases-add_losses l = l.count

abbrev pub invariant-loop-site : goal.invariant-loop-site
invariant-loop-site l = l.losses.items ≡ l.initial.losses.items ++ map (λ T. l.chosen ++ T) (flat_map (tails_with l.sites (l.count - 1)) (range_with_len l.fn.from (l.site - l.fn.from)))
