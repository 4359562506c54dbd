use Rattle.cs_recovery.proofs.ChangedSites.{changed_corrected}
use Rattle.cs_recovery.proofs.Read.{layers}
use Rattle.cs_recovery.proofs.loss_laws.changed_sites_are_corrected.Goals as goal

pub returns : goal.returns
returns c = λ C cat. changed_corrected C cat (layers C cat)
