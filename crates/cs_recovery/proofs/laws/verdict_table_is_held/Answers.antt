use Rattle.cs_recovery.proofs.Judged.{verdict_holds}
use Rattle.cs_recovery.proofs.KeptKinds.{walk_keeps_kinds}
use Rattle.cs_recovery.proofs.RowKinds.{rows_keep_kinds}
use Rattle.cs_recovery.proofs.laws.verdict_table_is_held.Goals as goal

pub returns : goal.returns
returns c = λ C cat F L T v. verdict_holds C cat F L (walk_keeps_kinds C cat F L) (rows_keep_kinds C cat F L) T v
