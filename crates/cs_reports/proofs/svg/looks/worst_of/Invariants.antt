use Rattle.std.proofs.Common.{◌<◌}
use Rattle.cs_reports.proofs.svg.looks.worst_of.Given as goal

abbrev pub invariant-loop-file : goal.invariant-loop-file
invariant-loop-file l = l.worst < 4
