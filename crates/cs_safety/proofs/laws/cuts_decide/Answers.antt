use Rattle.cs_safety.proofs.RowsAtCuts.{cuts_decide}
use Rattle.cs_safety.proofs.laws.cuts_decide.Goals as goal

pub returns : goal.returns
returns c = cuts_decide
