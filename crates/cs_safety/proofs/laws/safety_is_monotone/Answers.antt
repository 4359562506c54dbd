use Rattle.cs_safety.proofs.WithinSafe.{safe_within}
use Rattle.cs_safety.proofs.laws.safety_is_monotone.Goals as goal

pub returns : goal.returns
returns c = λ rule C L M within s. safe_within L M within C rule s
