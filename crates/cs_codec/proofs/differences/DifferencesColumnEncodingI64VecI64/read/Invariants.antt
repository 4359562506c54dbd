use Rattle.std.proofs.Common.{◌≡◌, ◌≤◌, length}
use Rattle.cs_codec.proofs.DifferenceReading.{ValuesSoFar}
use Rattle.cs_codec.proofs.differences.DifferencesColumnEncodingI64VecI64.read.Given as goal

abbrev pub invariant-loop-done : goal.invariant-loop-done
invariant-loop-done l = record {
  values : ValuesSoFar l.bytes l.at l.before l.cells.items;
  count : length l.cells.items ≡ l.done;
  within : l.at ≤ length l.bytes;
}
