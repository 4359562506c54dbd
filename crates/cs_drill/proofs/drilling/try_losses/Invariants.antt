use Rattle.std.proofs.Common.{◌≡◌, take, map}
use Rattle.std.specs.Prelude.{All}
use Rattle.cs_store.specs.FileSet.{contents_of}
use Rattle.cs_drill.specs.Drills.{IsTrial}
use Rattle.cs_drill.proofs.drilling.try_losses.Given as goal

-- each loss so far was tried
abbrev pub invariant-loop-loss : goal.invariant-loop-loss
invariant-loop-loss g l =
    (map (λ t. t.loss) l.trials.items ≡ take l.loss-index l.loss-items) × All (IsTrial l.store.catalog.now (contents_of l.store.files.now)) l.trials.items
