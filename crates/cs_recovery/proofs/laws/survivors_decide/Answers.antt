use Rattle.cs_recovery.proofs.WalkedTable.{survivors_answer}
use Rattle.cs_recovery.proofs.laws.survivors_decide.Goals as goal

pub returns : goal.returns
returns c = λ C F G L same r a. survivors_answer C F G L same r a
