use Rattle.std.proofs.Common.{◌+◌, ◌*◌}
use Rattle.cs_segment.proofs.parallel_read.+fn-read_first-join_mut+arg3+read_first.Given as goal

abbrev pub decreases-join_mut+arg3 : goal.decreases-join_mut+arg3
decreases-join_mut+arg3 g l = 2 * l.last + 1

abbrev pub decreases-read_first : goal.decreases-read_first
decreases-read_first g l = 2 * l.count
