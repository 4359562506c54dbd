use Rattle.cs_manifest.proofs.RoundTrip.{lines_back}
use Rattle.cs_manifest.proofs.laws.lines_read_back.Goals as goal

pub returns : goal.returns
returns c = lines_back
