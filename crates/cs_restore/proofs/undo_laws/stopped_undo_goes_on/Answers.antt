use Rattle.cs_restore.proofs.Comes.{goes_on_again}
use Rattle.cs_restore.proofs.undo_laws.stopped_undo_goes_on.Goals as goal

pub returns : goal.returns
returns c = goes_on_again
