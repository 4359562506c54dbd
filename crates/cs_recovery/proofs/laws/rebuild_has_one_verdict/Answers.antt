use Rattle.cs_recovery.proofs.OneVerdict.{one_rebuild_verdict}
use Rattle.cs_recovery.proofs.Read.{layers}
use Rattle.cs_recovery.proofs.laws.rebuild_has_one_verdict.Goals as goal

pub returns : goal.returns
returns c = λ C cat F L. one_rebuild_verdict C cat (layers C cat) F L
