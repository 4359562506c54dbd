use Rattle.cs_recovery.proofs.Accepted.{verdict_is}
use Rattle.cs_recovery.proofs.Read.{layers}
use Rattle.cs_recovery.proofs.laws.verdict_is_the_table.Goals as goal

pub returns : goal.returns
returns c = λ C cat F L T safe h. verdict_is C cat (layers C cat) F L safe T h
