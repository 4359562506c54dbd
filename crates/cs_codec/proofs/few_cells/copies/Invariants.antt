use Rattle.std.proofs.Common.{◌≡◌, ◌-◌, take, drop}
use Rattle.cs_codec.proofs.few_cells.copies.Given as goal

abbrev pub invariant-loop-at : goal.invariant-loop-at
invariant-loop-at g l = l.few.items ≡ take (l.at - l.from) (drop l.from (g.L.Column.cells l.column))
