use Rattle.cs_recovery.proofs.ChangedSites.{acceptance_grows}
use Rattle.cs_recovery.proofs.Read.{layers}
use Rattle.cs_recovery.proofs.loss_laws.acceptance_grows.Goals as goal

pub returns : goal.returns
returns c = λ C cat. acceptance_grows C cat (layers C cat)
