use Rattle.std.proofs.Common.{refl}
use Rattle.cs_safety.specs.NumberSets.{is_in}
use Rattle.cs_safety.proofs.sets.has_column.Goals as goal

pub returns : goal.returns
unfolding is_in
returns c = refl
