use Rattle.std.proofs.Common.{arith}
use Rattle.cs_codec.proofs.CellSizes.{texts_size}
use Rattle.cs_codec.proofs.column.TextsColumnWord.size.Goals as goal

pub returns : goal.returns
returns c = omega (arith, texts_size c.args.self.now, c.size.ensures, c.len.ensures, c.saturating_add.ensures)
