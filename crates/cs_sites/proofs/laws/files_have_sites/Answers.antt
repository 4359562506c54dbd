use Rattle.cs_sites.proofs.SiteLemmas.{have_sites}
use Rattle.cs_sites.proofs.laws.files_have_sites.Goals as goal

pub returns : goal.returns
returns c = have_sites
