use Rattle.std.proofs.Common.{◌≡◌, ◌++◌, take}
use Rattle.cs_schema.specs.Blocks.{texts_at}
use Rattle.cs_schema.proofs.texts.push_each.Given as goal

abbrev pub invariant-loop-place : goal.invariant-loop-place
invariant-loop-place l = l.texts ≡ l.initial.texts ++ texts_at l.other (take l.place-index l.places)
