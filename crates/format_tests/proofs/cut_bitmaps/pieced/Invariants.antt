use Rattle.std.proofs.Common.{List}
use Rattle.std.specs.Prelude.{ℤ}
use Rattle.std.specs.Ordering.{int_eq, int_cmp}
use Rattle.cs_codec.specs.BitmapParts.{IsBitmapsPart}
use Rattle.format_tests.proofs.cut_bitmaps.pieced.Given as goal

abbrev pub invariant-loop-piece : goal.invariant-loop-piece
invariant-loop-piece l = (x : List ℤ) × IsBitmapsPart int_eq int_cmp l.whole x
