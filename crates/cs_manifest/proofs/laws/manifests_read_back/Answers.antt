use Rattle.cs_manifest.proofs.RoundTrip.{manifests_back}
use Rattle.cs_manifest.proofs.laws.manifests_read_back.Goals as goal

pub returns : goal.returns
returns c = manifests_back
