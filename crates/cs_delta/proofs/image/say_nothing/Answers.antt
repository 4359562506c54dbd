use Rattle.std.proofs.Common.{◌≡◌, [], List, length, sym, ◌∙◌, arith}
use Rattle.std.proofs.lemmas.List.{nil_from_length}
use Rattle.std.proofs.lemmas.List.Elements.{All-more}
use Rattle.cs_delta.specs.Image.{Change}
use Rattle.cs_delta.proofs.image.say_nothing.Goals as goal

pub loop-layer-preserved : goal.loop-layer-preserved
loop-layer-preserved c =
    let layer = c.layer-item.result in
    let none : length layer ≡ 0 = grind (arith, c.is_empty.ensures, c.if-not-is_empty.ensures) in
    All-more (λ (l : List Change). l ≡ []) c.args.layers.now c.loop-layer.layer-index layer c.loop-layer-test.true c.loop-layer.invariant (sym c.layer-item.is ∙ nil_from_length layer none)
