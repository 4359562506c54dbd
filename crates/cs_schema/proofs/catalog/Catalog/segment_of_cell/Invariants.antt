use Rattle.std.proofs.Common.{◌≡◌, ◌≤◌, take}
use Rattle.cs_schema.specs.Values.{values}
use Rattle.cs_schema.specs.Ranges.{range_of}
use Rattle.cs_schema.specs.Rows.{cell}
use Rattle.cs_schema.proofs.catalog.Catalog.segment_of_cell.Given as goal

abbrev pub invariant-loop-at : goal.invariant-loop-at
invariant-loop-at l = (l.segment ≡ range_of (take l.at (values l.cuts)) (cell (values l.cells) l.row)) × (l.segment ≤ l.at)
