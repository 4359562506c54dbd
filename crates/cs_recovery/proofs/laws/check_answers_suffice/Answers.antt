use Rattle.cs_recovery.proofs.Suffice.{check_clauses}
use Rattle.cs_recovery.proofs.Read.{layers}
use Rattle.cs_recovery.proofs.laws.check_answers_suffice.Goals as goal

pub returns : goal.returns
returns c = λ C cat F k r a. check_clauses C cat (layers C cat) F k r a
