use Rattle.std.proofs.Common.{rules, sym}
use Rattle.cs_codec.proofs.CellLemmas.{int_cell_is}
use Rattle.cs_codec.proofs.cell.I64Cell.as_bits.Goals as goal

pub returns-clause-bytes : goal.returns-clause-bytes
returns-clause-bytes c = sym (int_cell_is c.args.self.now c.cast_unsigned.result (search rules) c.cast_unsigned.ensures)
