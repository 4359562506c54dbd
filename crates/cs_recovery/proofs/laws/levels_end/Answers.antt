use Rattle.cs_recovery.proofs.RowLevels.{found_ends}
use Rattle.cs_recovery.proofs.laws.levels_end.Goals as goal

pub returns : goal.returns
returns c = λ C L S p at h G e. found_ends C L S p at h G e
