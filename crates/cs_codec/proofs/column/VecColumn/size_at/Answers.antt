use Rattle.std.proofs.Common.{arith}
use Rattle.cs_codec.specs.Columns.{cells_at}
use Rattle.cs_codec.proofs.CellSizes.{cells_below}
use Rattle.cs_codec.proofs.PlainLemmas.{length-cells_at}
use Rattle.cs_codec.proofs.column.VecColumn.size_at.Goals as goal

pub returns : goal.returns
returns g c =
    let few = cells_below g.C.Cell.bytes g.met.C.Cell.some_bytes (cells_at c.args.self.now.items c.args.places.now) in
    let count = length-cells_at c.args.self.now.items c.args.places.now c.requires in
    omega (arith, few, count, c.saturating_mul.ensures)
