use Rattle.cs_diagnosis.proofs.AcceptedLosses.{diagnosed}
use Rattle.cs_diagnosis.proofs.laws.changed_sites_are_diagnosed.Goals as goal

pub returns : goal.returns
returns c = diagnosed
