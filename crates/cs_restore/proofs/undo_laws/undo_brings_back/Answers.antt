use Rattle.cs_restore.proofs.Comes.{brings_back}
use Rattle.cs_restore.proofs.undo_laws.undo_brings_back.Goals as goal

pub returns : goal.returns
returns c = brings_back
