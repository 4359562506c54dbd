use Rattle.cs_tables.proofs.RoomLemmas.{not_refused}
use Rattle.cs_tables.proofs.relayout_laws.survivors_are_laid_out.Goals as goal

pub returns : goal.returns
returns c = not_refused
