use Rattle.std.proofs.Common.{◌≡◌, take}
use Rattle.cs_codec.proofs.lists.column_of.Given as goal

abbrev pub invariant-loop-cell : goal.invariant-loop-cell
invariant-loop-cell g l = l.column.items ≡ take l.cell-index l.cells
