use Rattle.cs_inspection.proofs.Sound.{sound_good}
use Rattle.cs_inspection.proofs.laws.sound_files_are_good.Goals as goal

pub returns : goal.returns
returns c = sound_good
