use Rattle.std.specs.List.{AllByRecursion}
use Rattle.std.proofs.Common.{◌≡◌, ◌≤◌, ◌-◌, length}
use Rattle.cs_codec.proofs.EntryReading.{EntriesSoFar}
use Rattle.cs_codec.proofs.EntryPainting.{Numbered, AreBelow}
use Rattle.cs_codec.proofs.bitmap_reading.candidate.Given as goal

abbrev pub invariant-loop-at : goal.invariant-loop-at
invariant-loop-at g l = record {
  far : EntriesSoFar g.C.Cell.bytes g.C.Cell.is_cell g.C.PartialEq.eq g.C.Ord.cmp l.bytes l.rows l.at (Numbered (g.L.Column.cells l.values) l.numbers.items);
  count_is : l.count ≡ length (g.L.Column.cells l.values);
  few : l.count ≤ l.rows;
  below : AreBelow l.numbers.items l.count;
  size : length l.numbers.items ≡ l.rows;
  hold : AllByRecursion g.C.Cell.is_cell (g.L.Column.cells l.values);
  within : l.at ≤ length l.bytes;
}

abbrev pub decreases-loop-at : goal.decreases-loop-at
decreases-loop-at g l = length l.bytes - l.at
