use Rattle.std.proofs.Common.{arith}
use Rattle.cs_safety.proofs.graph.column_count.Goals as goal

pub overflow_cast-result : goal.overflow_cast-result
overflow_cast-result c = omega (arith, c.column_count.ensures.rules.column_range.1, c.column_count.ensures.count)
