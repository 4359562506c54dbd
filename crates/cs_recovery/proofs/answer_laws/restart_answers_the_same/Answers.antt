use Rattle.cs_recovery.proofs.Restarts.{restarts}
use Rattle.cs_recovery.proofs.Read.{layers}
use Rattle.cs_recovery.proofs.answer_laws.restart_answers_the_same.Goals as goal

pub returns : goal.returns
returns c = λ C cat. restarts C cat (layers C cat)
