use Rattle.std.proofs.Common.{refl}
use Rattle.cs_digests.proofs.LaneLemmas.{below_four}
use Rattle.cs_digests.proofs.words.all.Goals as goal

pub returns : goal.returns
returns c = below_four _ refl refl refl refl
