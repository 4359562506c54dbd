use Rattle.std.proofs.Common.{rules}
use Rattle.cs_codec.proofs.CellLemmas.{int_cell_is}
use Rattle.cs_codec.proofs.cell.I64Cell.write.Goals as goal

pub returns-clause-ok : goal.returns-clause-ok
returns-clause-ok c = rw (← int_cell_is c.args.self.now c.cast_unsigned.result (search rules) c.cast_unsigned.ensures) (search rules)
