use Rattle.cs_piece.proofs.Variants.{have_one_column}
use Rattle.cs_piece.proofs.laws.texts_are_of_one_column.Goals as goal

pub returns : goal.returns
returns c = have_one_column
