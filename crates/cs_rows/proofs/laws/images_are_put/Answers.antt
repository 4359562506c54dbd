use Rattle.cs_rows.proofs.PutLemmas as law
use Rattle.cs_rows.proofs.laws.images_are_put.Goals as goal

pub returns : goal.returns
returns c = law.images_are_put
