use Rattle.cs_recovery.proofs.CheckClauses.{one_check_verdict}
use Rattle.cs_recovery.proofs.Read.{layers}
use Rattle.cs_recovery.proofs.laws.check_has_one_verdict.Goals as goal

pub returns : goal.returns
returns c = λ C cat F k. one_check_verdict C cat (layers C cat) F k
