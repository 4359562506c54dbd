use Rattle.std.proofs.Common.{length, ap, arith, List}
use Rattle.cs_jix.specs.JoinIndex.{Place}
use Rattle.cs_jix.proofs.JoinLemmas.{zip_length}
use Rattle.cs_jix.proofs.index.JoinIndex.top.Goals as goal

pub returns : goal.returns
returns c =
    let l = zip_length c.self.inside.segments.items c.self.inside.keys.items c.self.invariant.0 in
    let m = ap (λ (l : List Place). length l) c.self.view_is in
    omega arith
