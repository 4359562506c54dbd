use Rattle.cs_delta.proofs.HeadTexts as law
use Rattle.cs_delta.proofs.laws.one_delta.Goals as goal

pub returns : goal.returns
returns c = law.one_delta
