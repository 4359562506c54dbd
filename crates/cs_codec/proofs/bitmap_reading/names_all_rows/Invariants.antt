use Rattle.std.proofs.Common.{◌≤◌, ◌-◌, length}
use Rattle.cs_codec.proofs.BitmapCounts.{Counted}
use Rattle.cs_codec.proofs.EntryReading.{EntriesSoFar}
use Rattle.cs_codec.proofs.bitmap_reading.names_all_rows.Given as goal

abbrev pub invariant-loop-at : goal.invariant-loop-at
invariant-loop-at g l = record {
  far : EntriesSoFar g.C.Cell.bytes g.C.Cell.is_cell g.C.PartialEq.eq g.C.Ord.cmp l.bytes l.rows l.at (Counted g.C.PartialEq.eq l.named);
  few : l.named ≤ l.rows;
  within : l.at ≤ length l.bytes;
}

abbrev pub decreases-loop-at : goal.decreases-loop-at
decreases-loop-at g l = length l.bytes - l.at
