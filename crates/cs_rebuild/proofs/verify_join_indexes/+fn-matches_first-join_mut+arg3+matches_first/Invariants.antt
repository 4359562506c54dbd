use Rattle.std.proofs.Common.{◌+◌, ◌*◌}
use Rattle.cs_rebuild.proofs.verify_join_indexes.+fn-matches_first-join_mut+arg3+matches_first.Given as goal

abbrev pub decreases-join_mut+arg3 : goal.decreases-join_mut+arg3
decreases-join_mut+arg3 g l = 2 * l.start + 1

abbrev pub decreases-matches_first : goal.decreases-matches_first
decreases-matches_first g l = 2 * l.end
