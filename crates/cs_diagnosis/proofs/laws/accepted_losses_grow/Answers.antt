use Rattle.cs_diagnosis.proofs.AcceptedLosses.{grow}
use Rattle.cs_diagnosis.proofs.laws.accepted_losses_grow.Goals as goal

pub returns : goal.returns
returns c = grow
