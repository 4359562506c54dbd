use Rattle.std.proofs.Common.{◌≡◌, drop, ◌∷◌, map}
use Rattle.cs_schema.specs.declared.cells.Value.{Value}
use Rattle.cs_schema.specs.Cuts.{ascends}
use Rattle.cs_catalog.proofs.cuts.integers_ascend.Given as goal

abbrev pub invariant-loop-number : goal.invariant-loop-number
invariant-loop-number l = ascends (map Value.Int l.fn.numbers) ≡ ascends (map Value.Int (l.last ∷ drop l.number-index l.rest))
