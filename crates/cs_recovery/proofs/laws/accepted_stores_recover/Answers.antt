use Rattle.cs_recovery.proofs.Losses.{accepted_answer}
use Rattle.cs_recovery.proofs.Read.{layers}
use Rattle.cs_recovery.proofs.laws.accepted_stores_recover.Goals as goal

pub returns : goal.returns
returns c = λ C cat F G L k T. accepted_answer C cat (layers C cat) F G L k T
