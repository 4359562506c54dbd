use Rattle.std.proofs.Common.{◌≡◌}
use Rattle.cs_delta.specs.KindedImage.{base_keys}
use Rattle.cs_delta.proofs.image.first_keys.Given as goal

abbrev pub invariant-loop-i : goal.invariant-loop-i
invariant-loop-i l = l.keys.items ≡ base_keys l.i
