use Rattle.cs_safety.proofs.OnePlan.{one_plan}
use Rattle.cs_safety.proofs.laws.plan_is_one.Goals as goal

pub returns : goal.returns
returns c = one_plan
