use Rattle.cs_inspection.proofs.Sound.{forced}
use Rattle.cs_inspection.proofs.laws.bad_sites_are_forced.Goals as goal

pub returns : goal.returns
returns c = forced
