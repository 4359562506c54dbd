use Rattle.cs_inspection.proofs.Sound.{tell}
use Rattle.cs_inspection.proofs.laws.bad_files_tell_sound_ones.Goals as goal

pub returns : goal.returns
returns c = tell
