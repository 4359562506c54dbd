use Rattle.std.proofs.Common.{◌≡◌, length}
use Rattle.cs_codec.proofs.NumberReading.{NumbersSoFar}
use Rattle.cs_codec.proofs.bitmap_reading.read_numbers.Given as goal

abbrev pub invariant-loop : goal.invariant-loop
invariant-loop l = record {
  far : NumbersSoFar l.bytes l.at l.end l.count l.numbers.items;
  size : length l.numbers.items ≡ l.counter;
}
