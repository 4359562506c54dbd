use Rattle.std.proofs.Common.{arith}
use Rattle.cs_codec.specs.Columns.{cells_at}
use Rattle.cs_codec.proofs.CellSizes.{texts_size}
use Rattle.cs_codec.proofs.PlainLemmas.{length-cells_at}
use Rattle.cs_codec.proofs.column.TextsColumnWord.size_at.Goals as goal

pub returns : goal.returns
returns c =
    let whole = texts_size (cells_at c.args.self.now c.args.places.now) in
    let count = length-cells_at c.args.self.now c.args.places.now c.requires in
    omega (arith, whole, count, c.size_at.ensures, c.saturating_add.ensures)
