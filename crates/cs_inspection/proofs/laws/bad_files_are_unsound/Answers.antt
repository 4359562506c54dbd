use Rattle.cs_inspection.proofs.Sound.{unsound}
use Rattle.cs_inspection.proofs.laws.bad_files_are_unsound.Goals as goal

pub returns : goal.returns
returns c = unsound
