use Rattle.std.proofs.Common.{arith}
use Rattle.cs_verifying.proofs.OtherSites.{others_none, others_more}
use Rattle.cs_verifying.proofs.one_site.all_but.Goals as goal

pub loop-other-init : goal.loop-other-init
loop-other-init c = rw c.none-lost.ensures (others_none c.args.site)

pub loop-other-preserved : goal.loop-other-preserved
loop-other-preserved c = others_more _ _ _ _ c.loop-other.invariant c.with_unless-lost.ensures

pub returns : goal.returns
returns c = λ s low high. c.loop-other.invariant.below s low (omega arith)
