use Rattle.std.proofs.Common.{arith}
use Rattle.cs_schema.proofs.Blocks.{count_in}
use Rattle.cs_schema.proofs.texts.Texts.len.Goals as goal

pub returns : goal.returns
returns c =
    let count = count_in c.args.self.now c.self.inside.bytes.items c.self.inside.ends c.self.view_is c.self.invariant in
    omega arith
