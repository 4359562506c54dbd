use Rattle.std.proofs.Common.{◌≡◌, [], ℕ, length, slice_index_or}
use Rattle.cs_codec.proofs.numbered.empty_bitmaps.Given as goal

abbrev pub invariant-loop-number : goal.invariant-loop-number
invariant-loop-number l = record {
  count : length l.bitmaps.items ≡ l._number;
  none : (n : ℕ) → slice_index_or l.bitmaps.items n [] ≡ [];
}
