use Rattle.std.proofs.Common.{◌≤◌, ◌++◌, length, ap, refl, inr, arith, length-append}
use Rattle.cs_delta.specs.KindedImage.{base_keys}
use Rattle.cs_delta.proofs.Merged.{length-base_keys}
use Rattle.cs_delta.proofs.keys.Keys.first.Goals as goal

pub invariant_of-result : goal.invariant_of-result
invariant_of-result c =
    let n = c.args.count in
    let few : length (base_keys n ++ c.new.result.items) ≤ 1048576 = omega (arith, c.requires, length-append (base_keys n) c.new.result.items, length-base_keys n, ap length c.new.ensures.items) in
    (few, rw (c.new.ensures.items, c.new-2.ensures.items) (λ key. refl), inr c.new.ensures.items)
