use Rattle.cs_recovery.proofs.Suffice.{rebuild_clauses}
use Rattle.cs_recovery.proofs.Read.{layers}
use Rattle.cs_recovery.proofs.laws.rebuild_answers_suffice.Goals as goal

pub returns : goal.returns
returns c = λ C cat F L loss r a. rebuild_clauses C cat (layers C cat) F L loss r a
