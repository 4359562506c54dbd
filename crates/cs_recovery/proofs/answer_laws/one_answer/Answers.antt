use Rattle.cs_recovery.proofs.OneAnswer.{one_answer}
use Rattle.cs_recovery.proofs.Read.{layers}
use Rattle.cs_recovery.proofs.answer_laws.one_answer.Goals as goal

pub returns : goal.returns
returns c = λ C cat. one_answer C cat (layers C cat)
