use Rattle.std.proofs.Common.{◌+◌, ◌*◌}
use Rattle.cs_rebuild.proofs.comparing.+fn-has_first-join+arg3+has_first.Given as goal

abbrev pub decreases-join+arg3 : goal.decreases-join+arg3
decreases-join+arg3 g l = 2 * l.start + 1

abbrev pub decreases-has_first : goal.decreases-has_first
decreases-has_first g l = 2 * l.end
