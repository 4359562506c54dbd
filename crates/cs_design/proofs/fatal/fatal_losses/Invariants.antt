use Rattle.cs_design.proofs.Searched.{IsSearched}
use Rattle.cs_design.proofs.fatal.fatal_losses.Given as goal

abbrev pub invariant-loop-loss : goal.invariant-loop-loss
invariant-loop-loss l = IsSearched l.catalog l.lost l.loss-items l.loss-index l.fatal.items
