use Rattle.cs_recovery.proofs.Keyed.{merged_keyed}
use Rattle.cs_recovery.proofs.TableFacts.{distinct_keys}
use Rattle.cs_recovery.proofs.table_laws.merged_keys_are_distinct.Goals as goal

pub returns : goal.returns
returns c = λ C p b d is merge. distinct_keys _ (merged_keyed C p b d is merge.rows)
