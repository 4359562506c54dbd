use Rattle.std.proofs.Common.{◌≡◌, ◌<◌, [], ℕ, length, slice_index_or, take}
use Rattle.std.specs.Prelude.{nat_eq}
use Rattle.cs_codec.specs.Texts.{bitmap_lengths}
use Rattle.cs_codec.proofs.numbered.bitmaps_of_numbers.Given as goal

abbrev pub invariant-loop-number : goal.invariant-loop-number
invariant-loop-number l = record {
  count : length l.bitmaps.items ≡ l.count;
  position_is : l.position ≡ l.number-index;
  each : (n : ℕ) → n < l.count → slice_index_or l.bitmaps.items n [] ≡ bitmap_lengths nat_eq n (take l.number-index l.numbers);
}
