use Rattle.std.proofs.Common.{◌≡◌, ◌++◌, take}
use Rattle.cs_codec.specs.Columns.{cells_at}
use Rattle.cs_codec.proofs.column.VecColumn.push_at.Given as goal

abbrev pub invariant-loop-place : goal.invariant-loop-place
invariant-loop-place g l = l.self.items ≡ l.initial.self.items ++ cells_at l.other.items (take l.place-index l.places)
