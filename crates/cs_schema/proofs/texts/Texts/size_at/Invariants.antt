use Rattle.std.proofs.Common.{◌≤◌, length, take}
use Rattle.std.specs.List.{concat}
use Rattle.cs_schema.specs.Blocks.{texts_at}
use Rattle.cs_schema.proofs.texts.Texts.size_at.Given as goal

abbrev pub invariant-loop-place : goal.invariant-loop-place
invariant-loop-place l = l.size ≤ length (concat (texts_at l.self (take l.place-index l.places)))
