use Rattle.std.proofs.Common.{◌≡◌, ◌++◌, replicate}
use Rattle.cs_codec.proofs.column.VecColumn.repeat.Given as goal

abbrev pub invariant-loop : goal.invariant-loop
invariant-loop g l = l.self.items ≡ l.initial.self.items ++ replicate l.counter l.cell
