use Rattle.std.proofs.Common.{◌≡◌, ◌-◌, drop, map}
use Rattle.cs_schema.specs.declared.cells.Value.{Value}
use Rattle.cs_schema.specs.Cuts.{ascends}
use Rattle.cs_catalog.proofs.cuts.texts_ascend.Given as goal

abbrev pub invariant-loop-next : goal.invariant-loop-next
invariant-loop-next l = ascends (map Value.Text l.texts) ≡ ascends (map Value.Text (drop (l.next - 1) l.texts))
