use Rattle.std.proofs.Common.{◌↔◌, IsTrue, subst, arith}
use Rattle.pinepolo_answers.specs.Spare.{IsSpare}
use Rattle.pinepolo_answers.proofs.SitesBelow.{sites_none, sites_more}
use Rattle.pinepolo_answers.proofs.doubted.spare_sites.Goals as goal

pub loop-site-init : goal.loop-site-init
loop-site-init c = rw c.none-spare.ensures (sites_none (IsSpare c.args.diagnosis.now.explanations.items c.args.loss))

pub loop-site-preserved : goal.loop-site-preserved
loop-site-preserved c =
    let found = c.args.diagnosis.now.explanations.items in
    let is = subst (λ es. IsTrue c.is_spare.result ↔ IsSpare es c.args.loss c.loop-site.site) c.as_slice-found.ensures.value c.is_spare.ensures in
    sites_more (IsSpare found c.args.loss) c.loop-site.spare c.with_if-spare.result c.loop-site.site c.is_spare.result c.loop-site.invariant is c.with_if-spare.ensures

pub returns : goal.returns
returns c = λ s low high. c.loop-site.invariant.below s low (omega arith)
