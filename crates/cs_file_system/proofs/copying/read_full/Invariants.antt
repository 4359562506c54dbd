use Rattle.std.proofs.Common.{◌≤◌}
use Rattle.cs_file_system.proofs.copying.read_full.Given as goal

abbrev pub invariant-loop : goal.invariant-loop
invariant-loop g l = l.filled ≤ 65536
