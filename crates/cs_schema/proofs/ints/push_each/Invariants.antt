use Rattle.std.proofs.Common.{◌≡◌, ◌++◌, take}
use Rattle.cs_schema.specs.Blocks.{texts_at}
use Rattle.cs_schema.proofs.ints.push_each.Given as goal

abbrev pub invariant-loop-place : goal.invariant-loop-place
invariant-loop-place l = l.ints.items ≡ l.initial.ints.items ++ texts_at l.others (take l.place-index l.places)
