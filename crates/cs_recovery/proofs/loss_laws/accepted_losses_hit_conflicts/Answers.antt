use Rattle.cs_recovery.proofs.Covered.{hits_accepted}
use Rattle.cs_recovery.proofs.Covers.{accepted_hits}
use Rattle.cs_recovery.proofs.Read.{layers}
use Rattle.cs_recovery.proofs.loss_laws.accepted_losses_hit_conflicts.Goals as goal

pub returns : goal.returns
returns c = λ C cat F L T. (accepted_hits C cat (layers C cat) F L T, hits_accepted C cat (layers C cat) F L T)
