use Rattle.cs_safety.proofs.CutCells.{cells_are_cuts}
use Rattle.cs_safety.proofs.laws.cells_are_greatest_cuts.Goals as goal

pub returns : goal.returns
returns c = cells_are_cuts
