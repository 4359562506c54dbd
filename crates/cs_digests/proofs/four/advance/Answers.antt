use Rattle.std.proofs.Common.{List, ℕ, refl}
use Rattle.cs_digests.specs.declared.chain.Chain.{Chain}
use Rattle.cs_digests.proofs.ChainLemmas.{set_alike}
use Rattle.cs_digests.proofs.four.advance.Goals as goal

abbrev text_of : Chain → List ℕ
text_of c = c.text.now

pub returns : goal.returns
returns c =
    let first = c.args.chains.now in
    let s0 = set_alike text_of first first c.args.four.0 c.index-chains-p0.result c.after.result refl c.index-chains-p0.is c.after.ensures in
    let s1 = set_alike text_of first _ c.args.four.1 c.index-chains-p1.result c.after-2.result s0 c.index-chains-p1.is c.after-2.ensures in
    let s2 = set_alike text_of first _ c.args.four.2 c.index-chains-p2.result c.after-3.result s1 c.index-chains-p2.is c.after-3.ensures in
    set_alike text_of first _ c.args.four.3 c.index-chains-p3.result c.after-4.result s2 c.index-chains-p3.is c.after-4.ensures
