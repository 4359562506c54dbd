use Rattle.cs_piece.proofs.ShortTexts.{column_texts_are_short}
use Rattle.cs_piece.proofs.laws.texts_are_short.Goals as goal

pub returns : goal.returns
returns c = column_texts_are_short
