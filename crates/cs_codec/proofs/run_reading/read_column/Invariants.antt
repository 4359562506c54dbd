use Rattle.std.proofs.Common.{◌≡◌, ◌-◌, length}
use Rattle.cs_codec.specs.RunTexts.{HasRead}
use Rattle.cs_codec.proofs.run_reading.read_column.Given as goal

abbrev pub invariant-loop-at : goal.invariant-loop-at
invariant-loop-at g l = record {
  has_read : HasRead g.C.Cell.bytes g.C.Cell.is_cell g.C.PartialEq.eq l.bytes l.rows l.at (g.L.Column.cells l.cells);
  count_is : l.count ≡ length (g.L.Column.cells l.cells);
}

abbrev pub decreases-loop-at : goal.decreases-loop-at
decreases-loop-at g l = length l.bytes - l.at
