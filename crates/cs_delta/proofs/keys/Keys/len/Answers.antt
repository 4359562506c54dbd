use Rattle.std.proofs.Common.{ap, length, arith, length-append}
use Rattle.cs_delta.specs.KindedImage.{base_keys}
use Rattle.cs_delta.proofs.Merged.{length-base_keys}
use Rattle.cs_delta.proofs.keys.Keys.len.Goals as goal

pub returns : goal.returns
returns c =
    let first = c.self.inside.first in
    omega (arith, ap length c.self.view_is, length-append (base_keys first) c.self.inside.listed.items, length-base_keys first, c.len.ensures)
