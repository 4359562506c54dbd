use Rattle.cs_recovery.proofs.OneTable.{one_table_held}
use Rattle.cs_recovery.proofs.Read.{layers}
use Rattle.cs_recovery.proofs.loss_laws.one_table_is_held.Goals as goal

pub returns : goal.returns
returns c = λ C cat. one_table_held C cat (layers C cat)
