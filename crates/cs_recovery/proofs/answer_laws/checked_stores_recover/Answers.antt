use Rattle.cs_recovery.proofs.Checked.{checked_recovers}
use Rattle.cs_recovery.proofs.Read.{layers}
use Rattle.cs_recovery.proofs.answer_laws.checked_stores_recover.Goals as goal

pub returns : goal.returns
returns c = λ C cat. checked_recovers C cat (layers C cat)
