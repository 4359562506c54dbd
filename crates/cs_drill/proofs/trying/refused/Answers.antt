use Rattle.std.proofs.Common.{refl}
use Rattle.cs_drill.proofs.Outcomes.{other_fault}
use Rattle.cs_drill.proofs.trying.refused.Goals as goal

pub returns-in_default : goal.returns-in_default
returns-in_default c = (refl, other_fault c.args.fault c.requires c.in_default.not-Memory)
