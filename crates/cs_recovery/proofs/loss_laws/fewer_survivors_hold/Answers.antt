use Rattle.cs_recovery.proofs.FewerSurvive.{fewer_hold}
use Rattle.cs_recovery.proofs.Read.{layers}
use Rattle.cs_recovery.proofs.loss_laws.fewer_survivors_hold.Goals as goal

pub returns : goal.returns
returns c = λ C cat F G L M T within same h. fewer_hold C cat (layers C cat) F L M within T h G same
