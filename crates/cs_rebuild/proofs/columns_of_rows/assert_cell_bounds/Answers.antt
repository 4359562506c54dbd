use Rattle.std.proofs.Common.{arith}
use Rattle.cs_rebuild.specs.Building.{IsOneKind}
use Rattle.cs_rebuild.proofs.AllMeet.{one_more_meets}
use Rattle.cs_rebuild.proofs.columns_of_rows.assert_cell_bounds.Goals as goal

pub loop-column-preserved : goal.loop-column-preserved
loop-column-preserved c = one_more_meets IsOneKind c.args.rows.now c.loop-column.column-index c.column-item.result (omega arith) c.column-item.is c.assert_column_bounds.ensures c.loop-column.invariant
