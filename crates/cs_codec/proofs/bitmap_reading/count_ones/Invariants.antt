use Rattle.std.proofs.Common.{◌≡◌, ◌+◌, ◌≤◌, false, drop}
use Rattle.cs_codec.specs.Bitmaps.{ones_of}
use Rattle.cs_codec.proofs.bitmap_reading.count_ones.Given as goal

abbrev pub invariant-loop-length : goal.invariant-loop-length
invariant-loop-length l = record {
  counted : l.count + ones_of l.ones (drop l.length-index l.lengths) ≡ ones_of false l.lengths;
  few : l.count ≤ l.limit;
}
