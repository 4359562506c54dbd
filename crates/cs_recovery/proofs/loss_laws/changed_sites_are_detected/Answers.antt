use Rattle.cs_recovery.proofs.ChangedSites.{changed_detected}
use Rattle.cs_recovery.proofs.Read.{layers}
use Rattle.cs_recovery.proofs.loss_laws.changed_sites_are_detected.Goals as goal

pub returns : goal.returns
returns c = λ C cat F G B k T safe change few. changed_detected C cat (layers C cat) F G B T change k safe few
