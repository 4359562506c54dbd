use Rattle.std.proofs.Common.{arith}
use Rattle.cs_rebuild.proofs.comparing.has_column.Goals as goal

pub column-column-requires : goal.column-column-requires
column-column-requires g c = c.requires.comparable.columns_exist c.args.j c.requires.column

pub column-requires : goal.column-requires
column-requires g c = omega (arith, c.requires.comparable.width, c.requires.column)
