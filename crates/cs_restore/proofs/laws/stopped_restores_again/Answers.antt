use Rattle.cs_restore.proofs.Again.{stopped_again}
use Rattle.cs_restore.proofs.laws.stopped_restores_again.Goals as goal

pub returns : goal.returns
returns c = stopped_again
