use Rattle.std.proofs.Common.{length, ap, arith}
use Rattle.cs_codec.proofs.CellSizes.{cells_below}
use Rattle.cs_codec.proofs.column.VecColumn.size.Goals as goal

pub returns : goal.returns
returns g c =
    let few = cells_below g.C.Cell.bytes g.met.C.Cell.some_bytes c.args.self.now.items in
    let same = ap length c.as_slice.ensures.value in
    omega (arith, few, same, c.saturating_mul.ensures)
