use Rattle.cs_codec.specs.Texts.{differences_text}
use Rattle.cs_codec.proofs.RiseLists.{WritesRise}
use Rattle.std.proofs.Common.{ℤ}
use Rattle.cs_codec.proofs.differences.DifferencesPart.text.Given as goal

abbrev pub invariant-loop-gap : goal.invariant-loop-gap
invariant-loop-gap l = (last : ℤ) × WritesRise l.value l.gap-items l.gap-index l.position last l.out.items (differences_text l.self)
