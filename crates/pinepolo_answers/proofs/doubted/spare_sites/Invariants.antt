use Rattle.pinepolo_answers.specs.Spare.{IsSpare}
use Rattle.pinepolo_answers.proofs.SitesBelow.{SitesBelow}
use Rattle.pinepolo_answers.proofs.doubted.spare_sites.Given as goal

abbrev pub invariant-loop-site : goal.invariant-loop-site
invariant-loop-site l = SitesBelow (IsSpare l.diagnosis.explanations.items l.loss) l.spare l.site
