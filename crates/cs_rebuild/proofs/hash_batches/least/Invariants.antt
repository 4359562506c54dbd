use Rattle.std.proofs.Common.{◌<◌, length}
use Rattle.cs_rebuild.proofs.hash_batches.least.Given as goal

abbrev pub invariant-loop-i : goal.invariant-loop-i
invariant-loop-i l = l.found < length l.numbers
