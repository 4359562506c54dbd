use Rattle.std.proofs.Common.{arith}
use Rattle.cs_safety.proofs.BitSets.{none_in}
use Rattle.cs_safety.proofs.row_sets.kept_at.Goals as goal

pub loop-p-init : goal.loop-p-init
loop-p-init c = record { known = λ p h. absurd (omega arith); later = λ p h. none_in p }
