use Rattle.cs_codec.proofs.PlainLemmas.{one_of, lone_cell, lone_bytes}
use Rattle.cs_codec.proofs.column.lone_bits.Goals as goal

pub returns-clause-bytes : goal.returns-clause-bytes
returns-clause-bytes g c =
    lone_bytes g.C.Cell.bytes c.as_bits.result c.cell.result _ (one_of (g.L.Column.cells c.args.column.now) c.args.from c.args.to c.cell.result c.if-to-from-ne1.false c.cell.ensures) c.as_bits.ensures.bytes

pub returns-clause-cell : goal.returns-clause-cell
returns-clause-cell g c =
    lone_cell g.C.Cell.of_bits c.as_bits.result c.cell.result _ (one_of (g.L.Column.cells c.args.column.now) c.args.from c.args.to c.cell.result c.if-to-from-ne1.false c.cell.ensures) c.as_bits.ensures.cell
