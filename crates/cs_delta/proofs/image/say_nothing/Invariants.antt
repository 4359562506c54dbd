use Rattle.std.proofs.Common.{◌≡◌, [], take}
use Rattle.std.specs.Prelude.{All}
use Rattle.cs_delta.proofs.image.say_nothing.Given as goal

abbrev pub invariant-loop-layer : goal.invariant-loop-layer
invariant-loop-layer l = All (λ layer. layer ≡ []) (take l.layer-index l.layers)
