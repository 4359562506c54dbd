use Rattle.cs_recovery.proofs.Covered.{hits_accepted}
use Rattle.cs_recovery.proofs.Covers.{accepted_hits}
use Rattle.cs_recovery.proofs.Read.{layers}
use Rattle.cs_diagnosis.proofs.conflict_laws.kept_conflicts_are_conflicts.Goals as goal

pub returns : goal.returns
returns c = λ C cat F first T k table fits read are L around loss safe. (
  λ hit. accepted_hits C cat (layers C cat) F L T (record { loss = loss; safe = safe; holds = (are L around).0 hit }),
  λ hits. (are L around).1 (hits_accepted C cat (layers C cat) F L T table fits loss safe read hits).holds,
)
