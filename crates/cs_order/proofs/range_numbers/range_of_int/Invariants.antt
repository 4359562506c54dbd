use Rattle.std.proofs.Common.{◌≡◌, ◌≤◌, take, map}
use Rattle.cs_schema.specs.declared.cells.Value.{Value}
use Rattle.cs_schema.specs.Ranges.{range_of}
use Rattle.cs_order.proofs.range_numbers.range_of_int.Given as goal

abbrev pub invariant-loop-at : goal.invariant-loop-at
invariant-loop-at l = (l.range ≡ range_of (take l.at (map Value.Int l.cuts)) (Value.Int l.int)) × (l.range ≤ l.at)
