use Rattle.std.proofs.Common.{◌*◌, ◌≤◌}
use Rattle.cs_folders.proofs.limits.width_of.Given as goal

abbrev pub invariant-loop-j : goal.invariant-loop-j
invariant-loop-j l = l.cells ≤ 256 * l.j
