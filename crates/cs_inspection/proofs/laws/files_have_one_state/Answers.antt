use Rattle.cs_inspection.proofs.OneState.{one_state}
use Rattle.cs_inspection.proofs.laws.files_have_one_state.Goals as goal

pub returns : goal.returns
returns c = one_state
